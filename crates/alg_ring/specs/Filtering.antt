-- The filter of what a write log has.
use Rattle.std.specs.Prelude.{ℕ, ◌≡◌, ◌<◌, List, slice_index}
use Rattle.rule_base.specs.declared.layout.TheConstants.{SLOT_WORDS}
use Rattle.rule_ring.specs.SlotFilter.{slot_filter}
use Rattle.stm_rule.specs.RecordsKept.{cells_of}

-- these are the words of the filter of the addresses of these items
abbrev pub IsFilterOf : List ℕ → List (ℕ × ℕ) → Type 0
IsFilterOf words ws = (i : ℕ) → i < SLOT_WORDS → slice_index words i ≡ slot_filter.word (cells_of ws) i
