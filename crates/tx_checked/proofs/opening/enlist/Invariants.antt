use Rattle.std.proofs.Common.{◌≡◌, ◌≤◌, ◌+◌, ◌++◌, length}
use Rattle.std.specs.Prelude.{All, vec_len, vec_capacity}
use Rattle.std.specs.Arc.{arc_value}
use Rattle.std.specs.Vec.Iter.{into_iter_items, into_iter_len}
use Rattle.tx_atomic.specs.Callers.{IsReady}
use Rattle.tx_checked.specs.Ready.{HasMadeNone, IsUnused, descs_in}
use Rattle.tx_checked.proofs.opening.enlist.Given as goal

abbrev pub invariant-loop-desc : goal.invariant-loop-desc
invariant-loop-desc l = record {
  ready : All (IsReady (arc_value l.stm)) (into_iter_items l.desc-iterator);
  none : All HasMadeNone (into_iter_items l.desc-iterator);
  descs : descs_in l.checked_callers.items ++ into_iter_items l.desc-iterator ≡ into_iter_items l.initial.desc-iterator;
  unused : All (IsUnused (arc_value l.stm)) l.checked_callers.items;
  len : into_iter_len l.desc-iterator ≡ length (into_iter_items l.desc-iterator);
  room : vec_len l.checked_callers + length (into_iter_items l.desc-iterator) ≤ vec_capacity l.checked_callers;
}
