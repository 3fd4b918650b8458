-- What came of a caller's rounds.
use Rattle.std.specs.Prelude.{ℕ, suc, ◌≡◌}
use Rattle.tx_jobs.specs.Known.{Known, Grows}

-- so many rounds were done, one after another; this is told of the k-th, from 0
pub data Chain (tells : ℕ → Known → Known → Type 0) (u : Known) : ℕ → Known → Type 0 where
  nothing_yet : Chain tells u 0 u
  one_more : {k : ℕ} {v w : Known} → Chain tells u k v → tells k v w → Chain tells u (suc k) w

-- of so many rounds these were done: all of them; or fewer, and then part of one more
pub record Went (tells : ℕ → Known → Known → Type 0) (count : ℕ) (u : Known) (done : ℕ) (w : Known) : Type 0 where
  pub last : Known
  pub each : Chain tells u done last
  pub since : Grows last w
  pub whole : done ≡ count → w ≡ last
