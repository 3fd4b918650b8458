use Rattle.std.proofs.Common.{◌≡◌, ◌++◌, length}
use Rattle.std.specs.Prelude.{All}
use Rattle.std.specs.Vec.Iter.{into_iter_items, into_iter_len}
use Rattle.tx_loops.specs.Openings.{IsFree, callers_in}
use Rattle.tx_loops.proofs.opening.with_buffers.Given as goal

abbrev pub invariant-loop-caller : goal.invariant-loop-caller
invariant-loop-caller l = record {
  callers : callers_in l.looping_callers.items ++ into_iter_items l.caller-iterator ≡ into_iter_items l.initial.caller-iterator;
  free : All IsFree l.looping_callers.items;
  len : into_iter_len l.caller-iterator ≡ length (into_iter_items l.caller-iterator);
}
