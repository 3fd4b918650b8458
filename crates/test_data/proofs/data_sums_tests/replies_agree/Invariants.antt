use Rattle.std.proofs.Common.{◌≡◌, None}
use Rattle.data_effects.specs.Effects.{Under}
use Rattle.data_sums.specs.Sums.{IsSumMap}
use Rattle.test_data.proofs.data_sums_tests.replies_agree.Given as goal

abbrev pub invariant-loop-pair : goal.invariant-loop-pair
invariant-loop-pair g l = record {
  going : g.A.Access.stopped l.acc ≡ None;
  words : g.A.Access.words l.acc ≡ g.A.Access.words l.fn.acc;
  well : Under (g.A.Access.good l.acc) (g.A.Access.words l.acc) (g.A.Access.log l.acc) (IsSumMap l.map);
}
