-- An attempt of OrecEager until it is promoted, and afterwards: what it wrote lies in place, under records that it
-- holds, and its undo log has the old values. Without `reads` a validation could leave out a read. Without `undoable`
-- and `covered` an abort could leave a dirty word, or store in one whose record another caller holds. Without `below`
-- the clock couldn't be raised above an old version.
use Rattle.std.specs.Prelude.{ℕ, ◌≡◌, ◌≢◌, ◌≤◌, ◌<◌, ◌+◌, not, true, false, [], length}
use Rattle.stm_model.specs.Algorithms.{entry_rise}
use Rattle.stm_model.specs.declared.config.Config.{Config}
use Rattle.stm_model.specs.declared.config.TheConstants.{CLOCK_LIMIT}
use Rattle.stm_model.specs.Memories.{is_empty}
use Rattle.rule_base.specs.declared.views.View.{View}
use Rattle.rule_base.specs.Bridge.{items}
use Rattle.rule_base.specs.History.{over, touches, Inside, Small}
use Rattle.rule_base.specs.Ranks.{home_of}
use Rattle.stm_rule.specs.declared.local.Local.{Local}
use Rattle.stm_rule.specs.RecordsKept.{IsOptimistic}

-- between two calls: what it wrote lies in place, under records that it holds, and can be taken back
pub record IsEager (c : Config) (l : Local) (v : View) : Type 0 where
  pub optimistic : IsOptimistic v
  pub inside : v.owned.inside ≡ true
  pub eager : v.owned.eager ≡ true
  pub open_yet : v.owned.committed ≡ false
  pub unraised : v.owned.raised ≡ false
  pub repaid : v.owned.back ≡ []
  pub reads : l.reads.items ≡ items v.attempt.reads
  pub locks : l.locks.items ≡ items v.owned.held
  pub writes : l.writes.items ≡ items v.owned.in_place
  pub undo : l.undo.items ≡ items v.owned.undo
  pub wrote : l.wrote ≡ not (is_empty l.writes.items)
  -- the undo log has an item for each address that was written, and keeps those of writes that were taken back
  pub undoable : (a : ℕ) → touches v.owned.in_place a ≡ true → touches v.owned.undo a ≡ true
  pub shorter : length l.writes.items ≤ length l.undo.items
  pub most : length l.undo.items ≤ l.undo.len
  pub words : Inside c.words v.owned.in_place
  pub small : Small v.owned.in_place
  pub old_words : Inside c.words v.owned.undo
  -- the record of each item is held; no more records are held than there are items, and each was free at a number of
  -- the clock that its start has seen
  pub covered : (a : ℕ) → touches v.owned.undo a ≡ true → touches v.owned.held (home_of c a) ≡ true
  pub few : length l.locks.items ≤ length l.undo.items
  pub places : Inside c.records v.owned.held
  pub olds : (r : ℕ) → touches v.owned.held r ≡ true → over v.owned.held r 0 ≤ l.start
  -- below the limit, so the clock can be raised above it
  pub below : (r : ℕ) → touches v.owned.held r ≡ true → over v.owned.held r 0 < CLOCK_LIMIT
  pub committing : l.committing ≡ true → l.wrote ≡ true
  pub marked : length l.writes.marks ≡ l.depth
  -- with one caller alone the start is the clock, which has stood since
  pub sole : c.callers ≡ 1 → l.start ≡ c.clock + v.steps.rises_at_begin

-- promoted: it is alone, loads and stores the heap, and holds its records until its commit
pub record IsEagerPromoted (c : Config) (l : Local) (v : View) : Type 0 where
  pub granted : v.gate.granted ≡ true
  -- its start is the clock, which is its own
  pub quiescent : v.gate.quiescent ≡ true
  pub holds : l.holds ≡ true
  pub unlocked : v.lock.taken ≡ false
  pub unfixed : v.lock.irrevocable ≡ false
  pub unwritten : v.tml.writer ≡ false
  pub uncommitted : v.ring_commit.committed ≡ false
  pub locks : l.locks.items ≡ items v.owned.held
  pub places : Inside c.records v.owned.held
  pub below : (r : ℕ) → touches v.owned.held r ≡ true → over v.owned.held r 0 < CLOCK_LIMIT
  -- it holds records only where it wrote, though that may have been taken back since
  pub disowned : v.owned.undo ≡ [] → v.owned.held ≡ []
  pub few : length l.locks.items ≤ l.undo.len
  pub clean : l.wrote ≡ false → v.attempt.stores ≡ []
  pub dirty : l.wrote ≡ true → v.attempt.stores ≢ []
  pub rises : v.steps.rises ≡ v.steps.rises_at_begin
  pub limit : l.start + entry_rise l.algorithm ≤ CLOCK_LIMIT
