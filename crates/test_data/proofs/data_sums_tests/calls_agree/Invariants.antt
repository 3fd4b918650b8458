use Rattle.std.proofs.Common.{◌≡◌, None, length}
use Rattle.data_effects.specs.Effects.{Under}
use Rattle.data_sums.specs.Sums.{IsSumMap}
use Rattle.test_data.proofs.data_sums_tests.calls_agree.Given as goal

abbrev pub invariant-loop-call : goal.invariant-loop-call
invariant-loop-call g l = record {
  going : g.A.Access.stopped l.acc ≡ None;
  words : g.A.Access.words l.acc ≡ g.A.Access.words l.fn.acc;
  well : Under (g.A.Access.good l.acc) (g.A.Access.words l.acc) (g.A.Access.log l.acc) (IsSumMap l.map);
  values : length l.values ≡ length l.fn.values;
}
