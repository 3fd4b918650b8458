use Rattle.std.proofs.Common.{take}
use Rattle.alg_ring.specs.Filtering.{IsFilterOf}
use Rattle.alg_ring.proofs.nesting.filter_of.Given as goal

abbrev pub invariant-loop-i : goal.invariant-loop-i
invariant-loop-i l = IsFilterOf l.filter (take l.i l.writes.items)
