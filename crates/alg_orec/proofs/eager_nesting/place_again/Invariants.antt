use Rattle.std.proofs.Common.{◌≡◌, ◌++◌, List, take, drop}
use Rattle.rule_base.specs.declared.views.TracedStep.{TracedStep}
use Rattle.rule_base.specs.Bridge.{items}
use Rattle.rule_base.specs.History.{Small}
use Rattle.stm_rule.specs.Counting.{TakesAtMost}
use Rattle.alg_orec.specs.EagerEnding.{restoring}
use Rattle.alg_orec.proofs.eager_nesting.place_again.Given as goal

abbrev pub invariant-loop-i : goal.invariant-loop-i
invariant-loop-i g l = record {
  table : l.seat.table_id ≡ l.initial.seat.table_id;
  id : l.seat.id ≡ l.initial.seat.id;
  bare : l.seat.me.1 ≡ l.initial.seat.me.1;
  more : List TracedStep;
  seat : l.seat.me.0 ≡ record l.initial.seat.me.0 { view = restoring l.initial.seat.me.0.view l.seat.me.0.view.owned.in_place more };
  in_place : items l.seat.me.0.view.owned.in_place ≡ take l.i l.writes.items ++ drop l.i (items l.initial.seat.me.0.view.owned.in_place);
  small : Small l.seat.me.0.view.owned.in_place;
  steps : TakesAtMost l.i l.initial.seat.me.0.view l.seat.me.0.view;
}
