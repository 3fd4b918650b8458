use Rattle.std.proofs.Common.{◌≡◌, map}
use Rattle.std.specs.List.{range_with_len}
use Rattle.tx_jobs.specs.Jobs.{HasDone}
use Rattle.example_queue_jobs.specs.Days.{Did, Given}
use Rattle.example_queue_jobs.proofs.hands.give_all.Given as goal

abbrev pub invariant-loop-i : goal.invariant-loop-i
invariant-loop-i g l = record {
  keeps : g.C.Calls.keeps l.fn.caller l.caller;
  same : g.C.Calls.seat l.caller ≡ g.C.Calls.seat l.fn.caller;
  gave : HasDone (Did (g.C.Calls.seat l.fn.caller).rule.waiting (g.C.Calls.seat l.fn.caller).words) (map Given (range_with_len l.fn.first l.i)) (g.C.Calls.known l.fn.caller).made (g.C.Calls.known l.caller).made;
}
