use Rattle.std.proofs.Common.{take}
use Rattle.tx_checked.specs.CheckedCallers.{IsSameCheckedCaller}
use Rattle.nekchhaul_c.specs.Writes.{WritesInTurn}
use Rattle.nekchhaul_c.proofs.writing.write_each.Given as goal

abbrev pub invariant-loop-i : goal.invariant-loop-i
invariant-loop-i l = record {
  same : IsSameCheckedCaller l.fn.looping_caller.caller l.looping_caller.caller;
  wrote : WritesInTurn (take l.i l.addresses) (take l.i l.values) l.fn.looping_caller l.looping_caller;
}
