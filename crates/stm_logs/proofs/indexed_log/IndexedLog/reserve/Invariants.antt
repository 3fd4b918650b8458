use Rattle.std.proofs.Common.{◌≡◌, [], take}
use Rattle.stm_logs.proofs.indexed_log.IndexedLog.reserve.Given as goal

abbrev pub invariant-loop-a : goal.invariant-loop-a
invariant-loop-a l = l.grown ≡ record { items = take l.a-index l.a-items; len = l.len; generation = l.fn.self.generation; marks = []; marks_limit = 0 }
