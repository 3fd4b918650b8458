-- What scans of a row see together, by a product.
use Rattle.std.proofs.Common.{ℕ, zero, suc, ◌≡◌, ◌+◌, ◌*◌, ◌-◌, ◌/◌, refl, sym, subst, arith}
use Rattle.perf_core.specs.Rows.{seen_by}

twice : (n : ℕ) → 2 * seen_by n + n ≡ n * n
twice zero = refl
twice (suc n) = let before = twice n in omega (arith, before)

pub half : (n less : ℕ) → less ≡ n - 1 → n * less / 2 ≡ seen_by n
half zero less one = omega arith
half (suc n) less one =
    let same : less ≡ n = omega (arith, one) in
    let before = twice n in
    subst (λ (k : ℕ). suc n * k / 2 ≡ seen_by n + n) (sym same) (omega (arith, before))
