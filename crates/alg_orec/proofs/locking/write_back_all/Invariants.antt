use Rattle.std.proofs.Common.{◌≡◌, List, drop}
use Rattle.rule_base.specs.declared.views.TracedStep.{TracedStep}
use Rattle.rule_base.specs.Bridge.{items}
use Rattle.stm_rule.specs.Counting.{TakesAtMost}
use Rattle.alg_orec.proofs.Writing.{owing}
use Rattle.alg_orec.proofs.locking.write_back_all.Given as goal

abbrev pub invariant-loop-i : goal.invariant-loop-i
invariant-loop-i g l = record {
  table : l.seat.table_id ≡ l.initial.seat.table_id;
  id : l.seat.id ≡ l.initial.seat.id;
  bare : l.seat.me.1 ≡ l.initial.seat.me.1;
  more : List TracedStep;
  seat : l.seat.me.0 ≡ record l.initial.seat.me.0 { view = owing l.initial.seat.me.0.view l.seat.me.0.view.owned.back more };
  left : items l.seat.me.0.view.owned.back ≡ drop l.i l.local.writes.items;
  steps : TakesAtMost (l.i) l.initial.seat.me.0.view l.seat.me.0.view;
}
