use Rattle.std.proofs.Common.{◌*◌, ◌≡◌, ◌≤◌}
use Rattle.stm_rule.specs.Counting.{TakesAtMost}
use Rattle.alg_ring.proofs.Slot.{SlotWords, SlotMet}
use Rattle.alg_ring.proofs.check.slot_bits.Given as goal

abbrev pub invariant-loop-part : goal.invariant-loop-part
invariant-loop-part g l = record {
  table : l.seat.table_id ≡ l.fn.seat.table_id;
  id : l.seat.id ≡ l.fn.seat.id;
  bare : l.seat.me.1 ≡ l.fn.seat.me.1;
  seat : l.seat.me.0 ≡ record l.fn.seat.me.0 { view = l.seat.me.0.view };
  low : 1 ≤ l.part;
  words : SlotWords l.stm.config.ring l.time l.filter l.part l.fn.seat.me.0.view l.seat.me.0.view;
  met : SlotMet l.stm.config.ring l.time l.filter l.part l.lowest words.words;
  steps : TakesAtMost (4 * l.part) l.fn.seat.me.0.view l.seat.me.0.view;
}
