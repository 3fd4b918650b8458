use Rattle.std.proofs.Common.{◌*◌, ◌≡◌}
use Rattle.stm_rule.specs.Counting.{TakesAtMost}
use Rattle.alg_ring.proofs.Slot.{ScanSoFar}
use Rattle.alg_ring.proofs.check.first_met.Given as goal

abbrev pub invariant-loop-passed : goal.invariant-loop-passed
invariant-loop-passed g l = record {
  table : l.seat.table_id ≡ l.fn.seat.table_id;
  id : l.seat.id ≡ l.fn.seat.id;
  bare : l.seat.me.1 ≡ l.fn.seat.me.1;
  seat : l.seat.me.0 ≡ record l.fn.seat.me.0 { view = l.seat.me.0.view };
  scan : ScanSoFar l.stm.config l.start l.clock l.filter l.passed l.fn.seat.me.0.view l.seat.me.0.view;
  steps : TakesAtMost (16 * l.passed) l.fn.seat.me.0.view l.seat.me.0.view;
}
