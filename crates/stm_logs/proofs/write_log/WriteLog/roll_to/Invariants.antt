use Rattle.std.proofs.Common.{◌≡◌, ◌≤◌, length, take}
use Rattle.stm_logs.proofs.write_log.WriteLog.roll_to.Given as goal

abbrev pub invariant-loop-self : goal.invariant-loop-self
invariant-loop-self l = (l.self ≡ record l.fn.self { marks = take (length l.self.marks) l.fn.self.marks }) × (l.depth ≤ length l.self.marks) × (length l.self.marks ≤ length l.fn.self.marks)

abbrev pub decreases-loop-self : goal.decreases-loop-self
decreases-loop-self l = length l.self.marks
