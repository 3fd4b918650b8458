-- What came of rounds of which each answers something.
use Rattle.std.specs.Prelude.{ℕ, ◌≡◌, ◌⊎◌, List, [], ◌∷◌, ◌++◌, length, Option, Some, None}
use Rattle.tx_jobs.specs.Known.{Known}

-- what was answered, where something was
abbrev pub listed : {V : Type 0} → Option V → List V
listed None = []
listed (Some x) = x ∷ []

-- these were answered, one after another; this is told of the k-th round, from 0
pub data Listed {V : Type 0} (tells : ℕ → Option V → Known → Known → Type 0) (u : Known) : List V → Known → Type 0 where
  none_yet : Listed tells u [] u
  one_more : {xs : List V} {v w : Known} (x : V) → Listed tells u xs v → tells (length xs) (Some x) v w → Listed tells u (xs ++ x ∷ []) w

-- of so many rounds all were done, or these, and the next answered nothing
pub record Gathered {V : Type 0} (tells : ℕ → Option V → Known → Known → Type 0) (count : ℕ) (u : Known) (xs : List V) (w : Known) : Type 0 where
  pub last : Known
  pub each : Listed tells u xs last
  pub ends : ((length xs ≡ count) × (w ≡ last)) ⊎ tells (length xs) None last w
