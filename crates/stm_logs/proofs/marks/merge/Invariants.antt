use Rattle.std.proofs.Common.{◌≡◌, get_or, take}
use Rattle.stm_logs.specs.Marks.{blank_mark}
use Rattle.stm_logs.proofs.MarkLemmas.{lower}
use Rattle.stm_logs.proofs.marks.merge.Given as goal

abbrev pub invariant-loop-i : goal.invariant-loop-i
invariant-loop-i l = l.marks ≡ lower l.fn.marks l.upper (take l.i (get_or l.fn.marks l.upper blank_mark).olds.items)
