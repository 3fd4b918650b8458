-- The last row.
use Rattle.std.proofs.Common.{ℕ, suc, ◌≡◌, ◌-◌, List, [], ◌∷◌, length, refl, sym, ap, ◌∙◌, arith}
use Rattle.std.specs.Prelude.{Some, None, slice_get}
use Rattle.std.specs.List.{last_or}

pub last-get : {A : Type 0} (x : A) (xs : List A) → last_or (Some x) xs ≡ slice_get (x ∷ xs) (length xs)
last-get x [] = refl
last-get x (y ∷ ys) = last-get y ys

minus-one : (n : ℕ) → suc n - 1 ≡ n
minus-one n = omega arith

pub last-some : {A : Type 0} (xs : List A) (x : A) → Some x ≡ slice_get xs (length xs - 1) → last_or None xs ≡ Some x
last-some [] x h = absurd cc
last-some (y ∷ ys) x h = last-get y ys ∙ (ap (slice_get (y ∷ ys)) (sym (minus-one (length ys))) ∙ sym h)
