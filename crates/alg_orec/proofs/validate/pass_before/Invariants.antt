use Rattle.std.proofs.Common.{◌≡◌}
use Rattle.stm_rule.specs.Counting.{TakesAtMost}
use Rattle.alg_orec.specs.Validating.{HasPassed}
use Rattle.alg_orec.proofs.validate.pass_before.Given as goal

abbrev pub invariant-loop-i : goal.invariant-loop-i
invariant-loop-i g l = record {
  table : l.seat.table_id ≡ l.fn.seat.table_id;
  id : l.seat.id ≡ l.fn.seat.id;
  bare : l.seat.me.1 ≡ l.fn.seat.me.1;
  seat : l.seat.me.0 ≡ record l.fn.seat.me.0 { view = l.seat.me.0.view };
  steps : TakesAtMost l.i l.fn.seat.me.0.view l.seat.me.0.view;
  passed : HasPassed l.stm.config 0 l.i l.local l.fn.seat.me.0.view l.seat.me.0.view;
}
