-- The bits of stripes.
use Rattle.std.proofs.Common.{ℕ, ◌≡◌, ◌<◌, ◌≤◌, ◌-◌, ◌/◌, ◌%◌, refl, sym, ap, ◌∙◌, arith, w32, bit_and, bit_or}
use Rattle.std.specs.Prelude.{Bool, true, false, ltb}
use Rattle.std.specs.Int.{bit_at}
use Rattle.std.proofs.Math.Pow.{split}
use Rattle.std.proofs.lemmas.Bool.Decides.{nat_tests}
use Rattle.std.proofs.lemmas.Nat.Bits.{bit_at-lt, bit_at-zero, bit_at_and, bit_at_or, bit_at_ones, bit_at_cat_high, bit_at_not}

pub or-left : (x y k : ℕ) → bit_at x k ≡ 1 → bit_at (bit_or x y) k ≡ 1
or-left x y k h = bit_at_or x y k ∙ (let l : bit_at y k < 2 = bit_at-lt y k in omega arith)

pub or-right : (x y k : ℕ) → bit_at y k ≡ 1 → bit_at (bit_or x y) k ≡ 1
or-right x y k h = bit_at_or x y k ∙ (let l : bit_at x k < 2 = bit_at-lt x k in omega arith)

-- no bit of x is missing in y
pub none-missing : (x y k : ℕ) → y < 4294967296 → k < 32 → bit_and x (4294967295 - y) ≡ 0 → bit_at x k ≡ 1 → bit_at y k ≡ 1
none-missing x y k fits low none h =
    let e : bit_at (bit_and x (4294967295 - y)) k ≡ 0 = ap (λ z. bit_at z k) none ∙ bit_at-zero k in
    let a = bit_at_and x (4294967295 - y) k in let c : bit_at (4294967295 - y) k ≡ 1 - bit_at y k = bit_at_not w32 y k fits low in
    let l : bit_at y k < 2 = bit_at-lt y k in omega arith

-- a bit stays, or comes down by 32
pub halves : (x a : ℕ) → a < 64 → bit_at x a ≡ 1 → bit_at (bit_and (bit_or x (x / 4294967296)) 4294967295) (a % 32) ≡ 1
halves x a low h = bit_at_and (bit_or x (x / 4294967296)) 4294967295 (a % 32) ∙ (let t = there (ltb a 32) refl in let o : bit_at 4294967295 (a % 32) ≡ 1 = bit_at_ones 32 (a % 32) (omega arith) in omega arith)
  where
    high : 32 ≤ a → bit_at (x / 4294967296) (a % 32) ≡ 1
    high from = ap (bit_at (x / 4294967296)) (let r : a % 32 ≡ a - 32 = omega arith in r)
        ∙ (sym (bit_at_cat_high (x / 4294967296) 32 (x % 4294967296) a (omega arith) from) ∙ (ap (λ z. bit_at z a) (split x 32) ∙ h))

    there : (t : Bool) → ltb a 32 ≡ t → bit_at (bit_or x (x / 4294967296)) (a % 32) ≡ 1
    there true e = or-left x (x / 4294967296) (a % 32) (ap (bit_at x) (let l : a < 32 = grind (arith, nat_tests, e) in let r : a % 32 ≡ a = omega arith in r) ∙ h)
    there false e = or-right x (x / 4294967296) (a % 32) (high (grind (arith, nat_tests, e)))
