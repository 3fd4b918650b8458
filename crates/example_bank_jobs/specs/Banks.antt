-- A bank in a memory, and what its transactions do to it.
use Rattle.std.specs.Prelude.{ℕ, ◌≡◌, ◌+◌, ◌-◌, ◌⊎◌, Bool, true, false, if◌then◌else◌, leb, List, [], ◌∷◌, take, sum, slice_index}
use Rattle.stm_model.specs.Memories.{written}
use Rattle.data_effects.specs.Effects.{Effect, unchanged, changed}
use Rattle.example_bank_jobs.specs.declared.bank.Transfer.{Transfer}

-- nothing, or the capital
abbrev pub IsPaid : ℕ → Type 0
IsPaid n = (n ≡ 0) ⊎ (n ≡ 8000)

-- THE RULE: the balances' sum is what was paid in, which is nothing or the capital
abbrev pub IsBalanced : List ℕ → Type 0
IsBalanced m = (sum (take 8 m) ≡ slice_index m 8) × IsPaid (slice_index m 8)

-- the capital is paid in to account 0, unless it was before
abbrev pub opened_in : List ℕ → Effect Bool
opened_in m = if leb 1 (slice_index m 8) then unchanged false m else changed true (written m ((8, 8000) ∷ (0, 8000) ∷ []))

-- the amount goes from one account to another, where the first has as much
abbrev pub moved_in : Transfer → List ℕ → Effect Bool
moved_in it m =
    if leb it.amount (slice_index m it.from) then changed true (written m ((it.from, slice_index m it.from - it.amount) ∷ (it.to, slice_index m it.to + it.amount) ∷ [])) else unchanged false m
