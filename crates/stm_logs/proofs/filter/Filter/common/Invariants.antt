use Rattle.std.proofs.Common.{◌≡◌, ◌-◌, slice_index}
use Rattle.stm_logs.specs.Filters.{lowest_from, lowest_common}
use Rattle.stm_logs.proofs.filter.Filter.common.Given as goal

abbrev pub invariant-loop-i : goal.invariant-loop-i
invariant-loop-i l = lowest_from (slice_index l.self-inside.words) (slice_index l.other-inside.words) l.i (16 - l.i) ≡ lowest_common (slice_index l.self-inside.words) (slice_index l.other-inside.words)
