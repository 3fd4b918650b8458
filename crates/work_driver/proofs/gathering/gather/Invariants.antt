use Rattle.std.proofs.Common.{◌≤◌, ◌+◌, ◌++◌, length}
use Rattle.std.specs.Prelude.{IsPermutation, vec_len, vec_capacity}
use Rattle.work_driver.specs.Gatherings.{joined}
use Rattle.work_driver.proofs.gathering.gather.Given as goal

abbrev pub invariant-loop-n : goal.invariant-loop-n
invariant-loop-n l = record {
  rows : IsPermutation (l.fn.to.items ++ joined l.fn.lists) (l.to.items ++ joined l.lists);
  room : vec_len l.to + length (joined l.lists) ≤ vec_capacity l.to;
}

abbrev pub decreases-loop-n : goal.decreases-loop-n
decreases-loop-n l = length (joined l.lists)
