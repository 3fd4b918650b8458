use Rattle.std.proofs.Common.{take}
use Rattle.work_text.specs.WordLaws.{Visible}
use Rattle.work_text.proofs.lines.long_word.Given as goal

abbrev pub invariant-loop-i : goal.invariant-loop-i
invariant-loop-i l = Visible (take l.i l.s)
