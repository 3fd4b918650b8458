use Rattle.std.proofs.Common.{ℕ, ◌≡◌, ◌≤◌, ◌<◌, length, get_or}
use Rattle.std.specs.declared.alloc.Global.{Global}
use Rattle.std_alloc.specs.declared.boxed.Box.{Box}
use Rattle.tx_loops.specs.declared.looping_caller.LoopingCaller.{LoopingCaller}
use Rattle.nekchhaul_c.specs.declared.handle.Handle.{Handle}
use Rattle.nekchhaul_c.specs.Opens.{HoldsAt, IsAt, values_in}
use Rattle.nekchhaul_c.proofs.opening.deal.Given as goal

abbrev pub invariant-loop-looping_caller : goal.invariant-loop-looping_caller
invariant-loop-looping_caller l = record {
  count : length l.callers ≡ length l.fn.callers;
  low : length l.looping_callers.items ≤ length l.callers;
  new : (i : ℕ) (b : Box LoopingCaller Global) → i < length l.looping_callers.items → IsAt (values_in l.fn.looping_callers.items) i (get_or l.looping_callers.items i b).value;
  dealt : (k : ℕ) (d : Handle) → length l.looping_callers.items ≤ k → k < length l.callers → HoldsAt (values_in l.fn.looping_callers.items) k (get_or l.callers k d);
}

abbrev pub decreases-loop-looping_caller : goal.decreases-loop-looping_caller
decreases-loop-looping_caller l = length l.looping_callers.items
