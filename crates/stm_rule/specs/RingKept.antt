-- An attempt of RingSW until it is promoted: the descriptor's filters have the addresses that it loaded and those that
-- it is to write. Without `loaded` its check could pass an entry that wrote what it read. Without `stored` the slot of
-- its own entry would hide a write from the checks of others.
use Rattle.std.specs.Prelude.{ℕ, ◌≡◌, ◌+◌, ◌<◌, true, false, map, slice_index}
use Rattle.stm_model.specs.declared.config.Config.{Config}
use Rattle.rule_base.specs.declared.layout.TheConstants.{SLOT_WORDS}
use Rattle.rule_base.specs.declared.views.View.{View}
use Rattle.rule_base.specs.Bridge.{items}
use Rattle.rule_ring.specs.SlotFilter.{slot_filter}
use Rattle.stm_logs.specs.Filters.{filter_word}
use Rattle.stm_rule.specs.declared.local.Local.{Local}
use Rattle.stm_rule.specs.RecordsKept.{Buffers, HasMarks, IsOptimistic, cells_of}

-- between two calls: the filters have the addresses that were loaded and those that were written
pub record IsRing (c : Config) (l : Local) (v : View) : Type 0 where
  pub optimistic : IsOptimistic v
  pub buffers : Buffers c l
  pub inside : v.ring_read.inside ≡ true
  pub settled : v.ring_read.loaded ≡ false
  pub loaded : (i : ℕ) → i < SLOT_WORDS → slice_index l.loaded i ≡ slot_filter.word v.ring_read.watched i
  pub stored : (i : ℕ) → i < SLOT_WORDS → slice_index l.stored i ≡ slot_filter.word (cells_of l.writes.items) i
  -- what was loaded is what was read
  pub read : (i : ℕ) → i < SLOT_WORDS → slice_index l.loaded i ≡ filter_word (map (λ (r : ℕ × ℕ). r.0) (items v.attempt.reads)) i
  -- the log has each mark
  pub marked : HasMarks c l.fence l.writes.marks l.depth
  -- with one caller alone the start is the clock, which has stood since
  pub sole : c.callers ≡ 1 → l.start ≡ c.clock + v.steps.rises_at_begin
