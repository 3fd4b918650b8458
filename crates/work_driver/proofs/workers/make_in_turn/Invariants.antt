use Rattle.std.proofs.Common.{◌≡◌, ◌≤◌, ◌+◌, ◌++◌, length}
use Rattle.std.specs.Prelude.{vec_len, vec_capacity}
use Rattle.std.specs.Vec.Iter.{into_iter_items, into_iter_len}
use Rattle.work_driver.specs.AllWorkers.{AreMadeOf, workers_in}
use Rattle.work_driver.proofs.workers.make_in_turn.Given as goal

abbrev pub invariant-loop-desc : goal.invariant-loop-desc
invariant-loop-desc g l = record {
  all : l.yielded ++ into_iter_items l.desc-iterator ≡ into_iter_items l.initial.desc-iterator;
  len : into_iter_len l.desc-iterator ≡ length (into_iter_items l.desc-iterator);
  begun : AreMadeOf l.common l.yielded (workers_in l.runners.items);
  room : vec_len l.runners + length (into_iter_items l.desc-iterator) ≤ vec_capacity l.runners;
}
