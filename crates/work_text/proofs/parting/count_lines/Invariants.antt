use Rattle.std.proofs.Common.{length}
use Rattle.work_text.proofs.PartingLaws.{Counted}
use Rattle.work_text.proofs.parting.count_lines.Given as goal

abbrev pub invariant-loop-i : goal.invariant-loop-i
invariant-loop-i l = Counted l.text l.rest l.count

abbrev pub decreases-loop-i : goal.decreases-loop-i
decreases-loop-i l = length l.rest
