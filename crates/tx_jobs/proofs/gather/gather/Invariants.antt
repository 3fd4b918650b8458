use Rattle.std.proofs.Common.{◌≡◌, ◌≤◌, length}
use Rattle.std.specs.Prelude.{vec_capacity}
use Rattle.tx_jobs.specs.Gathered.{Listed}
use Rattle.tx_jobs.proofs.gather.gather.Given as goal

abbrev pub invariant-loop-round : goal.invariant-loop-round
invariant-loop-round g l = record {
  keeps : g.C.Calls.keeps l.fn.caller l.caller;
  same : g.C.Calls.seat l.caller ≡ g.C.Calls.seat l.fn.caller;
  count : length l.list.items ≡ l.round;
  capacity : l.fn.count ≤ vec_capacity l.list;
  each : Listed (g.T.Errand.postcondition l.fn.each (g.C.Calls.seat l.fn.caller).rule (g.C.Calls.seat l.fn.caller).words (g.C.Calls.seat l.fn.caller).number)
      (g.C.Calls.known l.fn.caller) l.list.items (g.C.Calls.known l.caller);
}
