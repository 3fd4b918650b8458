-- Which words are numbers.
use Rattle.std.proofs.Common.{ℕ, zero, suc, ◌≡◌, ◌≢◌, ◌<◌, ◌≤◌, ◌^◌, ◌⊎◌, inl, inr, List, [], ◌∷◌, length, get_or, sym, ap, ◌∙◌, arith, Result, Ok, Err}
use Rattle.std.specs.Prelude.{MatchResult}
use Rattle.std.specs.Fmt.{decimal}
use Rattle.std.specs.Str.Parse.{AllDigits, digits_value, ParsesUnsigned}
use Rattle.std.proofs.lemmas.Fmt.{decimal_digit, first_decimal, decimal_injective, decimal-digits_value, parse-decimal}
use Rattle.std.proofs.lemmas.Str.Parse.{IsNumeralModel, numerals_by_value, tells_digits, parse_plain}

own : IsNumeralModel (AllDigits 10) (digits_value 10)
own = numerals_by_value (AllDigits 10) tells_digits

zero-is : decimal 0 ≡ 48 ∷ []
zero-is = decimal_digit 0 (omega arith)

pub no-plus : (word : List ℕ) → get_or word 0 0 ≡ 43 → (n : ℕ) → n < 2 ^ 64 → word ≢ decimal n
no-plus word plus zero lt is = let first : get_or word 0 0 ≡ 48 = ap (λ w. get_or w 0 0) (is ∙ zero-is) in omega arith
no-plus word plus (suc n) lt is =
    let first : 48 < get_or (decimal (suc n)) 0 0 = first_decimal (suc n) (omega arith) lt in let same : 43 ≡ get_or (decimal (suc n)) 0 0 = sym plus ∙ ap (λ w. get_or w 0 0) is in omega arith

-- a zero stands alone
pub zero-alone : (word : List ℕ) → get_or word 0 0 ≡ 48 → length word ≢ 1 → (n : ℕ) → n < 2 ^ 64 → word ≢ decimal n
zero-alone word first long zero lt is = long (ap length (is ∙ zero-is))
zero-alone word first long (suc n) lt is =
    let more = first_decimal (suc n) (omega arith) lt in let same : 48 ≡ get_or (decimal (suc n)) 0 0 = sym first ∙ ap (λ w. get_or w 0 0) is in omega arith

pub one-zero : (word : List ℕ) → get_or word 0 0 ≡ 48 → length word ≡ 1 → word ≡ decimal 0
one-zero [] first one = absurd (omega arith)
one-zero (b ∷ []) first one = ap (λ c. c ∷ []) first ∙ sym zero-is
one-zero (b ∷ c ∷ bs) first one = absurd (omega arith)

-- what is read of digits that don't begin with a zero
pub plain-number : {E : Type 0} (word : List ℕ) (r : Result ℕ E) → ParsesUnsigned 64 10 word r → get_or word 0 0 ≢ 43 → get_or word 0 0 ≢ 48
    → MatchResult r (λ n. word ≡ decimal n) (λ e. (n : ℕ) → n < 2 ^ 64 → word ≢ decimal n)
plain-number {E = E} word (Ok n) parses plus nought =
    let h = parse_plain own {E = E} 64 word (Ok n) parses plus in
    sym (decimal-digits_value own word h.0.0 h.0.1 (λ first. absurd (nought first)) h.0.2) ∙ ap decimal (sym h.1)
plain-number {E = E} word (Err e) parses plus nought = λ n lt is. let bad : Err e ≡ Ok n = parse-decimal {E = E} 64 n word (Err e) lt lt is parses in cc

-- a word is one number alone
pub out-of-range : (word : List ℕ) (most m n : ℕ) → m < 2 ^ 64 → most < 2 ^ 32 → (m < 1) ⊎ (most < m) → word ≡ decimal m → 1 ≤ n → n ≤ most → word ≢ decimal n
out-of-range word most m n fits small out is low high other =
    by (decimal_injective m n fits (omega arith) (sym is ∙ other)) out
  where
    by : m ≡ n → (m < 1) ⊎ (most < m) → ⊥
    by same (inl h) = omega arith
    by same (inr h) = omega arith
