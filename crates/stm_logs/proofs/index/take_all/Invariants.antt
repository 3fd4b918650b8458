use Rattle.std.proofs.Common.{◌≡◌, length, take}
use Rattle.stm_logs.specs.Buckets.{IsIndex}
use Rattle.stm_logs.proofs.index.take_all.Given as goal

abbrev pub invariant-loop-i : goal.invariant-loop-i
invariant-loop-i l = IsIndex l.fn.homes l.generation (take l.i l.items) l.index × (length l.index ≡ length l.fn.index)
