use Rattle.std.proofs.Common.{ℕ, ◌<◌, slice_index_or}
use Rattle.stm_bell.specs.Stripes.{Has}
use Rattle.stm_tx.proofs.stripes.written.Given as goal

abbrev pub invariant-loop-i : goal.invariant-loop-i
invariant-loop-i g l = (k : ℕ) → k < l.i → Has (slice_index_or l.writes.items k (0, 0)).0 l.stripes
