-- Token buckets in a memory, and what a wish for tokens does to them.
use Rattle.std.specs.Prelude.{ℕ, ◌≡◌, ◌<◌, ◌≤◌, ◌+◌, ◌-◌, ◌&&◌, if◌then◌else◌, leb, min, List, [], ◌∷◌, take, sum, slice_index}
use Rattle.stm_model.specs.Memories.{written}
use Rattle.data_effects.specs.Effects.{Effect, changed}
use Rattle.example_bucket_jobs.specs.declared.bucket.Limiter.{Limiter}
use Rattle.example_bucket_jobs.specs.declared.bucket.Wish.{Wish}

-- THE RULE: no bucket is over its capacity, and what was handed out is what was counted
abbrev pub IsFair : Limiter → List ℕ → Type 0
IsFair limiter m = ((client : ℕ) → client < 16 → slice_index m (16 + client) ≤ limiter.capacity) × (sum (take 16 m) ≡ slice_index m 32)

abbrev pub granted : ℕ → ℕ → ℕ → ℕ
granted amount tokens counted = if leb amount tokens && leb amount (18446744073709551615 - counted) then amount else 0

-- the bucket gains tokens, but not over its capacity, and hands out what is wished of it
abbrev pub wished_in : Limiter → Wish → List ℕ → Effect ℕ
wished_in limiter it m =
    let tokens = slice_index m (16 + it.client) + min it.more (limiter.capacity - slice_index m (16 + it.client)) in
    let given = granted it.amount tokens (slice_index m 32) in
    changed given (written m ((16 + it.client, tokens - given) ∷ (it.client, slice_index m it.client + given) ∷ (32, slice_index m 32 + given) ∷ []))
