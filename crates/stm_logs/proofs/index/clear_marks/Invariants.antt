use Rattle.std.proofs.Common.{ℕ, ◌≡◌, ◌<◌, slice_index_or}
use Rattle.stm_logs.specs.Buckets.{blank}
use Rattle.stm_logs.proofs.index.clear_marks.Given as goal

abbrev pub invariant-loop-bucket : goal.invariant-loop-bucket
invariant-loop-bucket l = (k : ℕ) → k < l.bucket-index → (slice_index_or l.index k blank).mark ≡ 0
