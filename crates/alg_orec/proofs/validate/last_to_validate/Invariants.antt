use Rattle.std.proofs.Common.{◌≡◌, ℕ, ◌+◌, ◌<◌, ◌≤◌, length, true}
use Rattle.std.specs.Prelude.{◌%◌}
use Rattle.alg_orec.specs.Validating.{read_at, vouches}
use Rattle.alg_orec.proofs.validate.last_to_validate.Given as goal

abbrev pub invariant-loop-passed : goal.invariant-loop-passed
invariant-loop-passed l = (j : ℕ) → length l.local.reads.items ≤ j + l.passed → j < length l.local.reads.items → vouches l.local (read_at l.local j % l.records) ≡ true
