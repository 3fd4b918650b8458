use Rattle.std.proofs.Common.{◌≡◌}
use Rattle.example_queue_jobs.proofs.hands.give.Given as goal

abbrev pub invariant-loop : goal.invariant-loop
invariant-loop g l = record {
  keeps : g.C.Calls.keeps l.fn.caller l.caller;
  same : g.C.Calls.seat l.caller ≡ g.C.Calls.seat l.fn.caller;
  made : (g.C.Calls.known l.caller).made ≡ (g.C.Calls.known l.fn.caller).made;
}
