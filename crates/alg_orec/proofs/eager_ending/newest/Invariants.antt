use Rattle.alg_orec.proofs.Eager.EagerReleasing.{NewestSo}
use Rattle.alg_orec.proofs.eager_ending.newest.Given as goal

abbrev pub invariant-loop-i : goal.invariant-loop-i
invariant-loop-i l = NewestSo l.newest l.i l.local.locks.items
