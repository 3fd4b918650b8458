use Rattle.std.proofs.Common.{◌≡◌, length, take}
use Rattle.tx_checked.specs.CheckedCallers.{IsSameCheckedCaller, IsServed, known_to}
use Rattle.nekchhaul_c.specs.Reads.{ReadsInTurn}
use Rattle.nekchhaul_c.proofs.InTurn.{IsKeptFrom}
use Rattle.nekchhaul_c.proofs.reading.read_each.Given as goal

abbrev pub invariant-loop-i : goal.invariant-loop-i
invariant-loop-i g l = record {
  served : IsServed g.C.Calls.acts_as (known_to l.looping_caller.caller);
  same : IsSameCheckedCaller l.fn.looping_caller.caller l.looping_caller.caller;
  beyond : IsKeptFrom l.i l.fn.values l.values;
  count : length l.values ≡ length l.fn.values;
  read : ReadsInTurn (take l.i l.addresses) (take l.i l.values) l.fn.looping_caller l.looping_caller;
}
