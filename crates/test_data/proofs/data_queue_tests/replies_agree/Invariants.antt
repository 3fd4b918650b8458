use Rattle.std.proofs.Common.{◌≡◌, ◌≤◌, None}
use Rattle.data_effects.specs.Effects.{Under}
use Rattle.data_queue.specs.Queues.{IsQueue}
use Rattle.test_data.proofs.data_queue_tests.replies_agree.Given as goal

abbrev pub invariant-loop-call : goal.invariant-loop-call
invariant-loop-call g l = record {
  going : g.A.Access.stopped l.acc ≡ None;
  words : g.A.Access.words l.acc ≡ g.A.Access.words l.fn.acc;
  well : Under (g.A.Access.good l.acc) (g.A.Access.words l.acc) (g.A.Access.log l.acc) (IsQueue l.queue);
  taken : l.taken ≤ l.added;
  added : l.added ≤ l._call;
}
