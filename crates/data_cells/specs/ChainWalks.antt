-- Walks along chains: the cells that are reached from a link.
use Rattle.std.specs.Prelude.{ℕ, zero, suc, ◌≡◌, ◌<◌, ◌⊎◌, List, [], ◌∷◌, slice_index}
use Rattle.data_cells.specs.declared.chains.Chains.{Chains}
use Rattle.data_cells.specs.Chains.{next_at, tag}

-- the cells from the link a on, n at most
abbrev pub walk_by : (ℕ → List ℕ) → ℕ → List ℕ
walk_by on zero = []
walk_by on (suc j) = j ∷ on j

abbrev pub walk : Chains → List ℕ → ℕ → ℕ → List ℕ
walk r m zero a = []
walk r m (suc n) a = walk_by (λ j. walk r m n (next_at r j)) (slice_index m a)

abbrev pub TagsAscend : Chains → List ℕ → ℕ → List ℕ → Type 0
TagsAscend r m low [] = Unit {0}
TagsAscend r m low (j ∷ js) = (low < tag r m j) × TagsAscend r m (tag r m j) js

abbrev pub Among : ℕ → List ℕ → Type 0
Among i [] = ⊥
Among i (j ∷ js) = (i ≡ j) ⊎ Among i js
