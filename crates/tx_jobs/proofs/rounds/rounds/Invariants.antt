use Rattle.std.proofs.Common.{◌≡◌}
use Rattle.tx_jobs.specs.Rounds.{Chain}
use Rattle.tx_jobs.proofs.rounds.rounds.Given as goal

abbrev pub invariant-loop-round : goal.invariant-loop-round
invariant-loop-round g l = record {
  keeps : g.C.Calls.keeps l.fn.caller l.caller;
  same : g.C.Calls.seat l.caller ≡ g.C.Calls.seat l.fn.caller;
  each : Chain (g.T.Round.postcondition l.fn.each (g.C.Calls.seat l.fn.caller).rule (g.C.Calls.seat l.fn.caller).words (g.C.Calls.seat l.fn.caller).number)
      (g.C.Calls.known l.fn.caller) l.round (g.C.Calls.known l.caller);
}
