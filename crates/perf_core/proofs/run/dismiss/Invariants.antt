use Rattle.std.proofs.Common.{◌≡◌, ◌≤◌, ◌+◌, ◌++◌, length}
use Rattle.std.specs.Prelude.{vec_len, vec_capacity}
use Rattle.std.specs.Vec.Iter.{into_iter_items, into_iter_len}
use Rattle.perf_core.specs.Callers.{descs_in}
use Rattle.perf_core.proofs.run.dismiss.Given as goal

abbrev pub invariant-loop-caller : goal.invariant-loop-caller
invariant-loop-caller l = record {
  descs : l.room.items ++ descs_in (into_iter_items l.caller-iterator) ≡ descs_in (into_iter_items l.initial.caller-iterator);
  len : into_iter_len l.caller-iterator ≡ length (into_iter_items l.caller-iterator);
  room : vec_len l.room + length (into_iter_items l.caller-iterator) ≤ vec_capacity l.room;
}
