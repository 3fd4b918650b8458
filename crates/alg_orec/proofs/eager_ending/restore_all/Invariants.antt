use Rattle.std.proofs.Common.{◌≡◌, List}
use Rattle.rule_base.specs.declared.views.TracedStep.{TracedStep}
use Rattle.stm_rule.specs.Counting.{TakesAtMost}
use Rattle.alg_orec.specs.EagerEnding.{restoring}
use Rattle.alg_orec.proofs.Eager.EagerReleasing.{IsAhead}
use Rattle.alg_orec.proofs.eager_ending.restore_all.Given as goal

abbrev pub invariant-loop-i : goal.invariant-loop-i
invariant-loop-i g l = record {
  table : l.seat.table_id ≡ l.initial.seat.table_id;
  id : l.seat.id ≡ l.initial.seat.id;
  bare : l.seat.me.1 ≡ l.initial.seat.me.1;
  more : List TracedStep;
  seat : l.seat.me.0 ≡ record l.initial.seat.me.0 { view = restoring l.initial.seat.me.0.view l.seat.me.0.view.owned.in_place more };
  ahead : IsAhead l.i l.local.undo.items l.seat.me.0.view.owned.in_place;
  steps : TakesAtMost l.i l.initial.seat.me.0.view l.seat.me.0.view;
}
