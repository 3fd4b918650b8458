use Rattle.std.proofs.Common.{◌≡◌}
use Rattle.perf_waits.proofs.hand.HandJobAnyMem.work.Given as goal

abbrev pub invariant-loop-i : goal.invariant-loop-i
invariant-loop-i g l = record {
  keeps : g.C.Calls.keeps l.fn.caller l.caller;
  same : g.C.Calls.seat l.caller ≡ g.C.Calls.seat l.fn.caller;
}
