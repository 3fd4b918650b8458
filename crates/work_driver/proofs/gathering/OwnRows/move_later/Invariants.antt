use Rattle.std.proofs.Common.{◌≡◌, ◌<◌, ◌+◌, ◌++◌, length}
use Rattle.std.specs.Prelude.{IsPermutation, vec_len, vec_capacity}
use Rattle.work_driver.proofs.gathering.OwnRows.move_later.Given as goal

abbrev pub invariant-loop-than : goal.invariant-loop-than
invariant-loop-than l = record {
  moved : IsPermutation (l.fn.to.items ++ l.fn.self) (l.to.items ++ l.self);
  fewer : length l.self < length l.fn.self;
  len : vec_len l.to + length l.self ≡ vec_len l.fn.to + length l.fn.self;
  capacity : vec_capacity l.to ≡ vec_capacity l.fn.to;
}

abbrev pub decreases-loop-than : goal.decreases-loop-than
decreases-loop-than l = length l.self
