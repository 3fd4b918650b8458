-- A number is read back from its decimal digits, and has no other text.
use Rattle.std.proofs.Common.{ℕ, zero, suc, ◌≡◌, ◌≢◌, ◌<◌, ◌≤◌, ◌+◌, ◌-◌, ◌*◌, ◌/◌, ◌%◌, ◌^◌, List, [], ◌∷◌, ◌++◌, Bool, true, false, ◌&&◌, Option, Some, None, refl, sym, ap, subst, ◌∙◌, arith, length, get_or}
use Rattle.std.specs.Prelude.{◌==◌, if◌then◌else◌, leb, ltb}
use Rattle.std.specs.Fmt.{decimal}
use Rattle.std.proofs.lemmas.Fmt.{decimal_by_steps, first_decimal, decimal_digit, decimal-digits_value}
use Rattle.std.proofs.lemmas.Bool.Decides.{nat_tests}
use Rattle.std.proofs.lemmas.Str.Parse.{IsNumeralModel, IsDigitsTest, FoldsDigits, numerals_by_fold}
use Rattle.work_text.specs.Lines.{number_from, number_of}
use Rattle.work_text.specs.Decimals.{IsDigit, Digits}

-- one digit more
number_from-digit : (n b : ℕ) (bs : List ℕ) → 48 ≤ b → b ≤ 57 → n * 10 + (b - 48) < 2 ^ 64 → number_from n (b ∷ bs) ≡ number_from (n * 10 + (b - 48)) bs
number_from-digit n b bs low high fits =
    let p : leb 48 b ≡ true = grind (arith, nat_tests) in
    let q : leb b 57 ≡ true = grind (arith, nat_tests) in
    let r : ltb (n * 10 + (b - 48)) (2 ^ 64) ≡ true = grind (arith, nat_tests) in rw (p, q, r)

snoc-by : (n : ℕ) (ds : List ℕ) (b k : ℕ) (t : Bool) → ((number_from n ds ≡ Some k) → number_from n (ds ++ b ∷ []) ≡ number_from k (b ∷ []))
    → (if t then number_from n ds else None) ≡ Some k → (if t then number_from n (ds ++ b ∷ []) else None) ≡ number_from k (b ∷ [])
snoc-by n ds b k true h is = h is
snoc-by n ds b k false h is = cc

number_from-snoc : (n : ℕ) (ds : List ℕ) (b k : ℕ) → number_from n ds ≡ Some k → number_from n (ds ++ b ∷ []) ≡ number_from k (b ∷ [])
number_from-snoc n [] b k is = let same : n ≡ k = cc in ap (λ j. number_from j (b ∷ [])) same
number_from-snoc n (d ∷ ds) b k is =
    snoc-by (n * 10 + (d - 48)) ds b k (leb 48 d && leb d 57 && ltb (n * 10 + (d - 48)) (2 ^ 64)) (λ h. number_from-snoc (n * 10 + (d - 48)) ds b k h) is

one-digit : (k : ℕ) → k < 10 → number_from 0 ((48 + k) ∷ []) ≡ Some k
one-digit k lt =
    number_from-digit 0 (48 + k) [] (omega arith) (omega arith) (omega arith) ∙ ap (λ j. Some j) (omega arith)

more-digits : (k : ℕ) (ds : List ℕ) → k < 2 ^ 64 → number_from 0 ds ≡ Some (k / 10) → number_from 0 (ds ++ (48 + k % 10) ∷ []) ≡ Some k
more-digits k ds lt is =
    let value : k / 10 * 10 + (48 + k % 10 - 48) ≡ k = omega arith in
    number_from-snoc 0 ds (48 + k % 10) (k / 10) is
    ∙ (number_from-digit (k / 10) (48 + k % 10) [] (omega arith) (omega arith) (omega arith) ∙ ap (λ j. Some j) value)

number_from-decimal : (n : ℕ) → n < 2 ^ 64 → number_from 0 (decimal n) ≡ Some n
number_from-decimal n lt =
    decimal_by_steps (λ k ds. k < 2 ^ 64 → number_from 0 ds ≡ Some k)
    (λ k small fits. one-digit k small)
    (λ k ds large h fits. more-digits k ds fits (h (omega arith)))
    n lt lt

-- no zero stands before other digits
no-zero : (ds : List ℕ) (n : ℕ) → (0 < n → 48 < get_or ds 0 0) → (n ≡ 0 → length ds ≡ 1) → number_from 0 ds ≡ Some n → number_of ds ≡ Some n
no-zero [] n first alone is = let none : 0 ≡ n = cc in let bad = alone (sym none) in absurd (omega arith)
no-zero (b ∷ []) n first alone is = is
no-zero (b ∷ c ∷ bs) zero first alone is = let short = alone refl in absurd (omega arith)
no-zero (b ∷ c ∷ bs) (suc n) first alone is =
    let large = first (omega arith) in let not-zero : (b == 48) ≡ false = grind (arith, nat_tests) in rw not-zero is

-- the number that a decimal names
pub number_of-decimal : (n : ℕ) → n < 2 ^ 64 → number_of (decimal n) ≡ Some n
number_of-decimal n lt =
    no-zero (decimal n) n (λ more. first_decimal n more lt) (λ none. ap (λ k. length (decimal k)) none ∙ ap length (decimal_digit 0 (omega arith))) (number_from-decimal n lt)

-- a number read is of 64 bits

abbrev pub Fits64 : Option ℕ → Type 0
Fits64 None = Unit {0}
Fits64 (Some n) = n < 2 ^ 64

digit-fits : (n b : ℕ) (bs : List ℕ) (d : Bool) → (ltb (n * 10 + (b - 48)) (2 ^ 64) ≡ true → Fits64 (number_from (n * 10 + (b - 48)) bs)) → (x : Bool) → ltb (n * 10 + (b - 48)) (2 ^ 64) ≡ x
    → Fits64 (if d && x then number_from (n * 10 + (b - 48)) bs else None)
digit-fits n b bs true h true e = h e
digit-fits n b bs true h false e = tt
digit-fits n b bs false h x e = tt

pub number_from-fits : (n : ℕ) (bs : List ℕ) → n < 2 ^ 64 → Fits64 (number_from n bs)
number_from-fits n [] h = h
number_from-fits n (b ∷ bs) h =
    digit-fits n b bs (leb 48 b && leb b 57) (λ e. number_from-fits (n * 10 + (b - 48)) bs (grind (arith, nat_tests))) (ltb (n * 10 + (b - 48)) (2 ^ 64)) refl

zero-fits : (b : Bool) (o : Option ℕ) → Fits64 o → Fits64 (if b then None else o)
zero-fits true o h = tt
zero-fits false o h = h

pub number_of-fits : (w : List ℕ) → Fits64 (number_of w)
number_of-fits [] = tt
number_of-fits (b ∷ []) = number_from-fits 0 (b ∷ []) (omega arith)
number_of-fits (b ∷ c ∷ bs) = zero-fits (b == 48) (number_from 0 (b ∷ c ∷ bs)) (number_from-fits 0 (b ∷ c ∷ bs) (omega arith))

-- a number's only text

abbrev value : ℕ → List ℕ → ℕ
value n [] = n
value n (b ∷ bs) = value (n * 10 + (b - 48)) bs

tells : IsDigitsTest Digits
tells = record { empty = tt; parts = λ c cs d. d; more = λ c cs k d. (k, d) }

folds : FoldsDigits value
folds = record { empty = λ n. refl; more = λ n c cs k. refl }

own : IsNumeralModel Digits (value 0)
own = numerals_by_fold Digits tells value folds

says-by : (n b k : ℕ) (bs : List ℕ) (low high fits : Bool) → (low ≡ true → high ≡ true → IsDigit b) → (number_from (n * 10 + (b - 48)) bs ≡ Some k → Digits bs × (value (n * 10 + (b - 48)) bs ≡ k))
    → (if low && high && fits then number_from (n * 10 + (b - 48)) bs else None) ≡ Some k → Digits (b ∷ bs) × (value n (b ∷ bs) ≡ k)
says-by n b k bs true true true digit rest is = let r = rest is in ((digit refl refl, r.0), r.1)
says-by n b k bs true true false digit rest is = cc
says-by n b k bs true false fits digit rest is = cc
says-by n b k bs false high fits digit rest is = cc

number_from-says : (n k : ℕ) (bs : List ℕ) → number_from n bs ≡ Some k → Digits bs × (value n bs ≡ k)
number_from-says n k [] is = (tt, cc)
number_from-says n k (b ∷ bs) is =
    says-by n b k bs (leb 48 b) (leb b 57) (ltb (n * 10 + (b - 48)) (2 ^ 64))
    (λ p q. (grind (arith, nat_tests), grind (arith, nat_tests)))
    (number_from-says (n * 10 + (b - 48)) k bs) is

fits-by : (n : ℕ) (o : Option ℕ) → Fits64 o → o ≡ Some n → n < 2 ^ 64
fits-by n o h is = subst Fits64 is h

decimal-by : (n : ℕ) (bs : List ℕ) → 0 < length bs → (get_or bs 0 0 ≡ 48 → length bs ≡ 1) → number_from 0 bs ≡ Some n → bs ≡ decimal n
decimal-by n bs some zeros is =
    let says = number_from-says 0 n bs is in
    let fits = fits-by n (number_from 0 bs) (number_from-fits 0 bs (omega arith)) is in
    let value-is = says.1 in
    sym (decimal-digits_value own bs says.0 some zeros (omega arith)) ∙ ap decimal says.1

no-zero-by : (b : ℕ) (o : Option ℕ) (n : ℕ) (t : Bool) → (b == 48) ≡ t → (if t then None else o) ≡ Some n → (o ≡ Some n) × (b ≢ 48)
no-zero-by b o n true e is = cc
no-zero-by b o n false e is = (is, λ z. grind (arith, nat_tests))

pub number_of-says : (n : ℕ) (w : List ℕ) → number_of w ≡ Some n → w ≡ decimal n
number_of-says n [] is = cc
number_of-says n (b ∷ []) is = decimal-by n (b ∷ []) (omega arith) (λ z. refl) is
number_of-says n (b ∷ c ∷ bs) is =
    let two = no-zero-by b (number_from 0 (b ∷ c ∷ bs)) n (b == 48) refl is in
    decimal-by n (b ∷ c ∷ bs) (omega arith) (λ z. absurd (two.1 z)) two.0
