use Rattle.std.proofs.Common.{◌≡◌, ◌≤◌, ◌+◌, ◌++◌, length, map, Ok}
use Rattle.std.specs.Prelude.{vec_len, vec_capacity}
use Rattle.std.specs.Vec.Iter.{into_iter_items, into_iter_len}
use Rattle.work_driver.specs.AllWorkers.{workers_in}
use Rattle.work_driver.proofs.workers.seat_all.Given as goal

abbrev pub invariant-loop-worker : goal.invariant-loop-worker
invariant-loop-worker g l = record {
  all : l.yielded ++ into_iter_items l.worker-iterator ≡ into_iter_items l.initial.worker-iterator;
  len : into_iter_len l.worker-iterator ≡ length (into_iter_items l.worker-iterator);
  seated : map Ok (workers_in l.runners.items) ≡ l.yielded;
  room : vec_len l.runners + length (into_iter_items l.worker-iterator) ≤ vec_capacity l.runners;
}
