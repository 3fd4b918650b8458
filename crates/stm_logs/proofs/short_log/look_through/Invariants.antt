use Rattle.std.proofs.Common.{ℕ, ◌≢◌, ◌<◌}
use Rattle.stm_logs.specs.Buckets.{address_of}
use Rattle.stm_logs.proofs.short_log.look_through.Given as goal

abbrev pub invariant-loop-i : goal.invariant-loop-i
invariant-loop-i l = (k : ℕ) → k < l.i → address_of l.items k ≢ l.a
