use Rattle.std.proofs.Common.{◌≡◌, ◌≤◌, length, take}
use Rattle.stm_logs.proofs.short_log.ShortLog.truncate.Given as goal

abbrev pub invariant-loop-self : goal.invariant-loop-self
invariant-loop-self l = (l.self ≡ record l.fn.self { items = take (length l.self.items) l.fn.self.items }) × (l.count ≤ length l.self.items) × (length l.self.items ≤ length l.fn.self.items)

abbrev pub decreases-loop-self : goal.decreases-loop-self
decreases-loop-self l = length l.self.items
