use Rattle.std.proofs.Common.{◌≡◌, ◌≤◌, ◌+◌, ◌++◌, length}
use Rattle.std.specs.Prelude.{vec_len, vec_capacity}
use Rattle.std.specs.Vec.Iter.{into_iter_items, into_iter_len}
use Rattle.perf_core.specs.Callers.{descs_in}
use Rattle.perf_core.proofs.run.hire.Given as goal

abbrev pub invariant-loop-desc : goal.invariant-loop-desc
invariant-loop-desc l = record {
  descs : descs_in l.callers.items ++ into_iter_items l.desc-iterator ≡ into_iter_items l.initial.desc-iterator;
  len : into_iter_len l.desc-iterator ≡ length (into_iter_items l.desc-iterator);
  room : vec_len l.callers + length (into_iter_items l.desc-iterator) ≤ vec_capacity l.callers;
}
