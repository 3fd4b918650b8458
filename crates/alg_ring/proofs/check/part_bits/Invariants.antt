use Rattle.std.proofs.Common.{◌-◌, ◌≡◌, ◌≤◌, ◌*◌}
use Rattle.stm_rule.specs.Counting.{TakesAtMost}
use Rattle.alg_ring.proofs.Slot.{PartSoFar}
use Rattle.alg_ring.proofs.check.part_bits.Given as goal

abbrev pub invariant-loop-i : goal.invariant-loop-i
invariant-loop-i g l = record {
  table : l.seat.table_id ≡ l.initial.seat.table_id;
  id : l.seat.id ≡ l.initial.seat.id;
  bare : l.seat.me.1 ≡ l.initial.seat.me.1;
  seat : l.seat.me.0 ≡ record l.initial.seat.me.0 { view = l.seat.me.0.view };
  low : 4 * l.part ≤ l.i;
  loads : PartSoFar l.stm.config.ring l.time l.filter l.part l.i l.initial.seat.me.0.view l.seat.me.0.view;
  steps : TakesAtMost (l.i - 4 * l.part) l.initial.seat.me.0.view l.seat.me.0.view;
}
