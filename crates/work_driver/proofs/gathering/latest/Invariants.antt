use Rattle.std.proofs.Common.{ℕ, ◌≡◌, ◌<◌, []}
use Rattle.std.specs.Prelude.{MatchOption, slice_index_or}
use Rattle.work_driver.specs.Gatherings.{HasRow}
use Rattle.work_driver.proofs.gathering.latest.Given as goal

abbrev pub invariant-loop-n : goal.invariant-loop-n
invariant-loop-n l = MatchOption l.found ((k : ℕ) → k < l.n → slice_index_or l.lists k [] ≡ []) (HasRow l.lists)
