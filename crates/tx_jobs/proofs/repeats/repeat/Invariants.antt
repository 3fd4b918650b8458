use Rattle.std.proofs.Common.{◌≡◌}
use Rattle.tx_jobs.specs.Repeats.{MadeAll, Rounds, raised}
use Rattle.tx_jobs.proofs.repeats.repeat.Given as goal

abbrev pub invariant-loop-round : goal.invariant-loop-round
invariant-loop-round g l = record {
  keeps : g.C.Calls.keeps l.fn.caller l.caller;
  same : g.C.Calls.seat l.caller ≡ g.C.Calls.seat l.fn.caller;
  installs : (g.C.Calls.known l.caller).installs ≡ (g.C.Calls.known l.fn.caller).installs;
  took : MadeAll (Rounds (λ k t. goal.F-post g l.fn.f k t) (λ t r log.
      g.T.Transaction.postcondition t (g.C.Calls.seat l.fn.caller).rule (g.C.Calls.seat l.fn.caller).words r log)) (g.C.Calls.known l.fn.caller).made l.round
      (g.C.Calls.known l.caller).made;
  counted : (g.C.Calls.known l.caller).commits ≡ raised (g.C.Calls.known l.fn.caller).commits l.round;
}
