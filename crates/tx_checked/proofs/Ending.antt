-- All words out of the transactions.
use Rattle.std.proofs.Common.{◌≡◌, ℕ, ◌<◌, true, arith}
use Rattle.std.proofs.lemmas.Bool.Decides.{nat_tests}
use Rattle.stm_answers.specs.Fences.{is_within}

pub within : (a n : ℕ) → a < n → is_within 0 n a ≡ true
within a n lt = grind (arith, nat_tests, lt)
