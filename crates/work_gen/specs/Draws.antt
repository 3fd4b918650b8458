-- The words that a seed gives.
use Rattle.std.specs.Prelude.{ℕ}
use Rattle.rand_core.specs.Pcg32Seed.{pcg32_seed}
use Rattle.rand_pcg.specs.Lcg.{Lcg, advance}
use Rattle.rand_pcg.specs.Pcg.{multiplier_64, pcg32, pcg32_of_seed}

-- the generator of a seed
unfoldable pub seeded : ℕ → Lcg
seeded seed = pcg32_of_seed (pcg32_seed 16 seed)

-- the same after k draws
abbrev pub generator_at : ℕ → ℕ → Lcg
generator_at seed k = advance 64 multiplier_64 k (seeded seed)

-- draw k, counted from 0
abbrev pub drawn : ℕ → ℕ → ℕ
drawn seed k = (pcg32 (generator_at seed k)).0
