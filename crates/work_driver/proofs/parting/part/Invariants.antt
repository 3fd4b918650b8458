use Rattle.std.proofs.Common.{◌≡◌, ◌++◌, length}
use Rattle.std.specs.Vec.Iter.{into_iter_items, into_iter_len}
use Rattle.work_driver.specs.Partings.{parted}
use Rattle.work_driver.proofs.parting.part.Given as goal

abbrev pub invariant-loop-item : goal.invariant-loop-item
invariant-loop-item l = record {
  all : l.yielded ++ into_iter_items l.item-iterator ≡ into_iter_items l.initial.item-iterator;
  given : l.parts.items ≡ parted l.callers l.yielded;
  len : into_iter_len l.item-iterator ≡ length (into_iter_items l.item-iterator);
}
