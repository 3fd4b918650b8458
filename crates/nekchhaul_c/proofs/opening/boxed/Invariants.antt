use Rattle.std.proofs.Common.{◌≡◌, ◌++◌, length}
use Rattle.std.specs.Vec.Iter.{into_iter_items, into_iter_len}
use Rattle.nekchhaul_c.specs.Opens.{values_in}
use Rattle.nekchhaul_c.proofs.opening.boxed.Given as goal

abbrev pub invariant-loop-looping_caller : goal.invariant-loop-looping_caller
invariant-loop-looping_caller l = record {
  values : values_in l.boxes.items ++ into_iter_items l.looping_caller-iterator ≡ into_iter_items l.initial.looping_caller-iterator;
  len : into_iter_len l.looping_caller-iterator ≡ length (into_iter_items l.looping_caller-iterator);
}
