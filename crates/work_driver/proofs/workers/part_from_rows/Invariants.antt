use Rattle.std.proofs.Common.{◌≡◌, ◌≤◌, ◌+◌, ◌++◌, length}
use Rattle.std.specs.Prelude.{vec_len, vec_capacity}
use Rattle.std.specs.Vec.Iter.{into_iter_items, into_iter_len}
use Rattle.work_driver.specs.AllWorkers.{workers_in, descs_of, rows_of}
use Rattle.work_driver.specs.Gatherings.{joined}
use Rattle.work_driver.proofs.workers.part_from_rows.Given as goal

abbrev pub invariant-loop-runner : goal.invariant-loop-runner
invariant-loop-runner g l = record {
  descs : l.descs.items ++ descs_of (workers_in (into_iter_items l.runner-iterator)) ≡ descs_of (workers_in (into_iter_items l.initial.runner-iterator));
  rows : joined l.lists.items ++ rows_of (workers_in (into_iter_items l.runner-iterator)) ≡ rows_of (workers_in (into_iter_items l.initial.runner-iterator));
  len : into_iter_len l.runner-iterator ≡ length (into_iter_items l.runner-iterator);
  descs_room : vec_len l.descs + length (into_iter_items l.runner-iterator) ≤ vec_capacity l.descs;
  lists_room : vec_len l.lists + length (into_iter_items l.runner-iterator) ≤ vec_capacity l.lists;
}
