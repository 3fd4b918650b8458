use Rattle.std.proofs.Common.{take}
use Rattle.work_text.specs.Lines.{Lacks}
use Rattle.work_text.proofs.lines.find.Given as goal

abbrev pub invariant-loop-i : goal.invariant-loop-i
invariant-loop-i l = Lacks l.b (take l.i l.s)
