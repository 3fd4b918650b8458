use Rattle.std.proofs.Common.{◌≡◌, List, drop}
use Rattle.rule_base.specs.declared.views.TracedStep.{TracedStep}
use Rattle.stm_rule.specs.RecordsKept.{cells_of}
use Rattle.stm_rule.specs.Counting.{TakesAtMost}
use Rattle.alg_ring.proofs.Buffering.{back_at}
use Rattle.alg_ring.proofs.ring.write_back.Given as goal

abbrev pub invariant-loop-i : goal.invariant-loop-i
invariant-loop-i g l = record {
  table : l.seat.table_id ≡ l.initial.seat.table_id;
  id : l.seat.id ≡ l.initial.seat.id;
  bare : l.seat.me.1 ≡ l.initial.seat.me.1;
  more : List TracedStep;
  seat : l.seat.me.0 ≡ record l.initial.seat.me.0 { view = back_at l.initial.seat.me.0.view (cells_of (drop l.i l.writes.items)) more };
  steps : TakesAtMost l.i l.initial.seat.me.0.view l.seat.me.0.view;
}
