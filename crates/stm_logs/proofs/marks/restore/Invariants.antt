use Rattle.std.proofs.Common.{◌≡◌, map, take}
use Rattle.stm_logs.specs.Marks.{old_or}
use Rattle.stm_logs.proofs.marks.restore.Given as goal

abbrev pub invariant-loop-i : goal.invariant-loop-i
invariant-loop-i l = l.log ≡ record l.fn.log { items = map (old_or (take l.i l.mark.olds.items)) l.fn.log.items }
