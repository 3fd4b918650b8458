-- An attempt of OrecLazy until it is promoted: the descriptor's logs are what its view says was read, is held and is to
-- be written. Without `reads` a validation could leave out a read. Without `locks` the commit could leave a record
-- locked. Without `buffers` it could write a word outside the memory, or one in a fence's range.
use Rattle.std.specs.Prelude.{ℕ, ◌≡◌, ◌≤◌, ◌+◌, not, true, false, List, [], ◌∷◌, ◌++◌, ◌<◌, length, get_or}
use Rattle.stm_model.specs.declared.config.Config.{Config}
use Rattle.stm_model.specs.declared.config.TheConstants.{CLOCK_LIMIT}
use Rattle.stm_model.specs.Memories.{is_empty, Once}
use Rattle.rule_base.specs.declared.entries.Cell.{Cell}
use Rattle.rule_base.specs.declared.views.View.{View}
use Rattle.rule_base.specs.Bridge.{items}
use Rattle.rule_base.specs.Encodings.{fenced}
use Rattle.rule_base.specs.History.{over, touches, Inside, Small}
use Rattle.rule_base.specs.Ranks.{home_of}
use Rattle.stm_rule.specs.declared.local.Local.{Local}

-- items as cells, the latest first
abbrev pub cells_of : List (ℕ × ℕ) → List Cell
cells_of [] = []
cells_of (w ∷ ws) = cells_of ws ++ record { at = w.0; value = w.1 } ∷ []

-- none of these cells lies in the range of the fence
abbrev pub Apart : ℕ → List Cell → Type 0
Apart fence cs = (a : ℕ) → touches cs a ≡ true → fenced fence a ≡ false

-- what is to be written lies with the descriptor
pub record Buffers (c : Config) (l : Local) : Type 0 where
  pub wrote : l.wrote ≡ not (is_empty l.writes.items)
  pub once : Once l.writes.items
  pub inside : Inside c.words (cells_of l.writes.items)
  pub small : Small (cells_of l.writes.items)
  pub apart : Apart l.fence (cells_of l.writes.items)

-- what may be written
pub record IsWriteSet (c : Config) (fence : ℕ) (ws : List (ℕ × ℕ)) : Type 0 where
  pub once : Once ws
  pub inside : Inside c.words (cells_of ws)
  pub small : Small (cells_of ws)
  pub apart : Apart fence (cells_of ws)

-- so many marks stand, each at what may be written
pub record HasMarks (c : Config) (fence : ℕ) (marks : List (List (ℕ × ℕ))) (depth : ℕ) : Type 0 where
  pub count : length marks ≡ depth
  pub sound : (k : ℕ) → k < length marks → IsWriteSet c fence (get_or marks k [])

-- nothing of the attempt is in the lock, at the clock or in the ring, and it has not closed the gate for good
pub record IsOptimistic (v : View) : Type 0 where
  pub unlocked : v.lock.taken ≡ false
  pub unfixed : v.lock.irrevocable ≡ false
  pub unwritten : v.tml.writer ≡ false
  pub uncommitted : v.ring_commit.committed ≡ false
  pub ungranted : v.gate.granted ≡ false
  pub not_quiescent : v.gate.quiescent ≡ false
  pub unstored : v.attempt.stores ≡ []
  pub rises : v.steps.rises ≡ v.steps.rises_at_begin

-- OrecLazy, between two calls: it holds records in the middle of its commit alone,
-- and then all of the words that it wrote
pub record IsLazy (c : Config) (l : Local) (v : View) : Type 0 where
  pub optimistic : IsOptimistic v
  pub buffers : Buffers c l
  pub inside : v.owned.inside ≡ true
  pub lazy : v.owned.eager ≡ false
  pub open_yet : v.owned.committed ≡ false
  pub unraised : v.owned.raised ≡ false
  pub unplaced : v.owned.in_place ≡ []
  pub undone : v.owned.undo ≡ []
  pub repaid : v.owned.back ≡ []
  pub unsampled : v.sample.sampled ≡ false
  pub unchecked : v.check.checking ≡ false
  pub reads : l.reads.items ≡ items v.attempt.reads
  pub locks : l.locks.items ≡ items v.owned.held
  -- each is a record, and was free at a number of the clock; there are no more than words that may be written
  pub places : Inside c.records v.owned.held
  pub few : length l.locks.items ≤ l.writes.len
  pub versions : (r : ℕ) → touches v.owned.held r ≡ true → over v.owned.held r 0 ≤ CLOCK_LIMIT
  pub open_handed : l.committing ≡ false → v.owned.held ≡ []
  pub locked : l.committing ≡ true → (a : ℕ) → touches (cells_of l.writes.items) a ≡ true → touches v.owned.held (home_of c a) ≡ true
  pub committing : l.committing ≡ true → l.wrote ≡ true
  -- the log has each mark
  pub marked : HasMarks c l.fence l.writes.marks l.depth
  -- all that it took the records of is at most the start
  pub olds : l.committing ≡ true → (r : ℕ) → touches v.owned.held r ≡ true → over v.owned.held r 0 ≤ l.start
  -- with one caller alone the start is the clock, which has stood since
  pub sole : c.callers ≡ 1 → l.start ≡ c.clock + v.steps.rises_at_begin
