-- Decimal digits, and where they end.
use Rattle.std.proofs.Common.{ℕ, ◌≡◌, ◌<◌, ◌≤◌, ◌+◌, ◌%◌, ◌^◌, List, [], ◌∷◌, ◌++◌, refl, sym, ap, ◌∙◌, subst, arith}
use Rattle.std.specs.Fmt.{decimal}
use Rattle.std.proofs.lemmas.Fmt.{decimal_by_steps, decimal_injective}

abbrev pub IsDigit : ℕ → Type 0
IsDigit b = (48 ≤ b) × (b ≤ 57)

-- digits and nothing else
abbrev pub Digits : List ℕ → Type 0
Digits [] = Unit {0}
Digits (b ∷ bs) = IsDigit b × Digits bs

-- the first byte, if there is one, is no digit
abbrev pub NoDigit : List ℕ → Type 0
NoDigit [] = Unit {0}
NoDigit (b ∷ bs) = IsDigit b → ⊥

-- there is a digit at the start
abbrev pub StartsDigit : List ℕ → Type 0
StartsDigit [] = ⊥
StartsDigit (b ∷ bs) = IsDigit b

digits-snoc : (ds : List ℕ) (b : ℕ) → Digits ds → IsDigit b → Digits (ds ++ b ∷ [])
digits-snoc [] b h d = (d, tt)
digits-snoc (x ∷ xs) b h d = (h.0, digits-snoc xs b h.1 d)

starts-snoc : (ds : List ℕ) (b : ℕ) → StartsDigit ds → StartsDigit (ds ++ b ∷ [])
starts-snoc [] b h = absurd h
starts-snoc (x ∷ xs) b h = h

pub digits-decimal : (n : ℕ) → n < 2 ^ 64 → Digits (decimal n) × StartsDigit (decimal n)
digits-decimal n lt =
    decimal_by_steps (λ k ds. Digits ds × StartsDigit ds)
    (λ k small. (((omega arith, omega arith), tt), (omega arith, omega arith)))
    (λ k ds large h. (digits-snoc ds (48 + k % 10) h.0 (omega arith, omega arith), starts-snoc ds (48 + k % 10) h.1)) n lt

pub head-same : (x y : ℕ) (xs ys : List ℕ) → x ∷ xs ≡ y ∷ ys → (x ≡ y) × (xs ≡ ys)
head-same x y xs ys e = (cc, cc)

-- a text starts with its first digits
digits-cut : (ds es x y : List ℕ) → Digits ds → Digits es → NoDigit x → NoDigit y → ds ++ x ≡ es ++ y → (ds ≡ es) × (x ≡ y)
digits-cut [] [] x y d e nx ny is = (refl, is)
digits-cut [] (b ∷ es) [] y d e nx ny is = cc
digits-cut [] (b ∷ es) (a ∷ x) y d e nx ny is =
    let same = (head-same a b x (es ++ y) is).0 in absurd (nx (subst IsDigit (sym same) e.0))
digits-cut (a ∷ ds) [] x [] d e nx ny is = cc
digits-cut (a ∷ ds) [] x (b ∷ y) d e nx ny is =
    let same = (head-same a b (ds ++ x) y is).0 in absurd (ny (subst IsDigit same d.0))
digits-cut (a ∷ ds) (b ∷ es) x y d e nx ny is =
    let two = head-same a b (ds ++ x) (es ++ y) is in
    let rest = digits-cut ds es x y d.1 e.1 nx ny two.1 in
    (ap (λ c. c ∷ ds) two.0 ∙ ap (λ t. b ∷ t) rest.0, rest.1)

-- a number is read back from its digits, where no digit follows
pub decimal-cut : (m n : ℕ) (x y : List ℕ) → m < 2 ^ 64 → n < 2 ^ 64 → NoDigit x → NoDigit y → decimal m ++ x ≡ decimal n ++ y → (m ≡ n) × (x ≡ y)
decimal-cut m n x y lm ln nx ny is =
    let two = digits-cut (decimal m) (decimal n) x y (digits-decimal m lm).0 (digits-decimal n ln).0 nx ny is in
    (decimal_injective m n lm ln two.0, two.1)
