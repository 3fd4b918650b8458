-- Where the regions of version 1 stand.
use Rattle.std.proofs.Common.{ℕ, zero, suc, ◌≡◌, ◌<◌, ◌≤◌, length, get_or, refl, arith, inl, inr}
use Rattle.std.specs.Prelude.{◌⊎◌}
use Rattle.std.proofs.Math.Nat.{mod-lt}
use Rattle.data_regions.specs.declared.region.Region.{Region}
use Rattle.data_regions.specs.Regions.{IsOutside, AreApart, EndsWithin, version_one}
use Rattle.data_regions.specs.Statements.{VersionOnePlaces}

pub one-apart : (i j : ℕ) (d : Region) → i < j → j < length version_one → AreApart (get_or version_one i d) (get_or version_one j d)
one-apart zero zero d lt jl = absurd (omega arith)
one-apart zero (suc zero) d lt jl = inl (omega arith)
one-apart zero (suc (suc zero)) d lt jl = inl (omega arith)
one-apart zero (suc (suc (suc zero))) d lt jl = inl (omega arith)
one-apart zero (suc (suc (suc (suc j)))) d lt jl = let n : length version_one ≡ 4 = refl in absurd (omega arith)
one-apart (suc zero) zero d lt jl = absurd (omega arith)
one-apart (suc zero) (suc zero) d lt jl = absurd (omega arith)
one-apart (suc zero) (suc (suc zero)) d lt jl = inl (omega arith)
one-apart (suc zero) (suc (suc (suc zero))) d lt jl = inl (omega arith)
one-apart (suc zero) (suc (suc (suc (suc j)))) d lt jl = let n : length version_one ≡ 4 = refl in absurd (omega arith)
one-apart (suc (suc zero)) zero d lt jl = absurd (omega arith)
one-apart (suc (suc zero)) (suc zero) d lt jl = absurd (omega arith)
one-apart (suc (suc zero)) (suc (suc zero)) d lt jl = absurd (omega arith)
one-apart (suc (suc zero)) (suc (suc (suc zero))) d lt jl = inl (omega arith)
one-apart (suc (suc zero)) (suc (suc (suc (suc j)))) d lt jl = let n : length version_one ≡ 4 = refl in absurd (omega arith)
one-apart (suc (suc (suc i))) j d lt jl = let n : length version_one ≡ 4 = refl in absurd (omega arith)

pub one-within : (j : ℕ) (d : Region) → j < length version_one → EndsWithin 1024 (get_or version_one j d)
one-within zero d jl = omega arith
one-within (suc zero) d jl = omega arith
one-within (suc (suc zero)) d jl = omega arith
one-within (suc (suc (suc zero))) d jl = omega arith
one-within (suc (suc (suc (suc j)))) d jl = let n : length version_one ≡ 4 = refl in absurd (omega arith)

pub one-plain : (a : ℕ) → (a < 64) ⊎ (1024 ≤ a) → (j : ℕ) (d : Region) → j < length version_one → IsOutside a (get_or version_one j d)
one-plain a (inl o) zero d jl = inl (omega arith)
one-plain a (inl o) (suc zero) d jl = inl (omega arith)
one-plain a (inl o) (suc (suc zero)) d jl = inl (omega arith)
one-plain a (inl o) (suc (suc (suc zero))) d jl = inl (omega arith)
one-plain a (inr o) zero d jl = inr (omega arith)
one-plain a (inr o) (suc zero) d jl = inr (omega arith)
one-plain a (inr o) (suc (suc zero)) d jl = inr (omega arith)
one-plain a (inr o) (suc (suc (suc zero))) d jl = inr (omega arith)
one-plain a o (suc (suc (suc (suc j)))) d jl = let n : length version_one ≡ 4 = refl in absurd (omega arith)

pub one-places : VersionOnePlaces
one-places key j = (refl, (let m = mod-lt key {m = 1} (omega arith) in omega arith), omega arith, omega arith, refl, omega arith, omega arith, refl, omega arith, omega arith, omega arith)
