use Rattle.std.proofs.Common.{◌≡◌, List, drop}
use Rattle.rule_base.specs.declared.views.TracedStep.{TracedStep}
use Rattle.rule_base.specs.Bridge.{items}
use Rattle.rule_base.specs.History.{Inside}
use Rattle.stm_rule.specs.Counting.{TakesAtMost}
use Rattle.alg_orec.specs.Locking.{holding_still}
use Rattle.alg_orec.proofs.Releasing.{Versions}
use Rattle.alg_orec.proofs.lazy_ending.abort.Given as goal

abbrev pub invariant-loop-i : goal.invariant-loop-i
invariant-loop-i g l = record {
  table : l.seat.table_id ≡ l.initial.seat.table_id;
  id : l.seat.id ≡ l.initial.seat.id;
  bare : l.seat.me.1 ≡ l.initial.seat.me.1;
  more : List TracedStep;
  seat : l.seat.me.0 ≡ record l.initial.seat.me.0 { view = holding_still l.initial.seat.me.0.view l.seat.me.0.view.owned.held more };
  steps : TakesAtMost l.i l.initial.seat.me.0.view l.seat.me.0.view;
  left : items l.seat.me.0.view.owned.held ≡ drop l.i l.local.locks.items;
  places : Inside l.stm.config.records l.seat.me.0.view.owned.held;
  versions : Versions l.seat.me.0.view.owned.held;
}
