-- A counter in a memory.
use Rattle.std.specs.Prelude.{ℕ, zero, suc, ◌+◌, ◌%◌, ◌^◌, ◌<◌, ◌≤◌, List, slice_index, slice_set}
use Rattle.data_cells.specs.declared.counter.Counter.{Counter}
use Rattle.data_effects.specs.Effects.{Effect, unchanged, changed}

abbrev pub StripesFit : Counter → ℕ → Type 0
StripesFit c words = (c.at + c.stripes ≤ words) × (c.at + c.stripes < 2 ^ 64)

-- the sum of the first n words from a on
abbrev pub sum_from : List ℕ → ℕ → ℕ → ℕ
sum_from m a zero = 0
sum_from m a (suc n) = sum_from m a n + slice_index m (a + n)

-- THE CONTENTS: the sum of the stripes. Every counter is well formed
abbrev pub count : Counter → List ℕ → ℕ
count c m = sum_from m c.at c.stripes % 2 ^ 64

abbrev pub total_in : Counter → List ℕ → Effect ℕ
total_in c m = unchanged (count c m) m

abbrev pub added_in : Counter → ℕ → ℕ → List ℕ → Effect ℕ
added_in c stripe k m =
    let sum : ℕ = (slice_index m (c.at + stripe) + k) % 2 ^ 64 in
    changed sum (slice_set m (c.at + stripe) sum)
