-- The filter of a slot: 16 words in four parts of 256 bits, in each of which an address sets one bit. Two filters meet
-- where all four parts have a common bit.
use Rattle.std.proofs.Common.{◌≡◌, ℕ, zero, suc, ◌+◌, ◌*◌, ◌/◌, ◌%◌, ◌^◌, ◌<◌, List, [], ◌∷◌, Bool, true, false, arith, refl, sym, subst, ap, ◌∙◌}
use Rattle.std.specs.Int.{bit_at}
use Rattle.rule_base.specs.declared.layout.TheConstants.{SLOT_WORDS}
use Rattle.std.proofs.Common.{inl, inr, ⊎_elim, ◌⊎◌}
use Rattle.std.specs.Prelude.{bit_or, bit_and, max, if◌then◌else◌, ◌==◌, not}
use Rattle.std.proofs.lemmas.Nat.Bits.{bit_at_or, bit_at_and, bit_at-zero, bit_at-lt, bit_at-pow_same}
use Rattle.std.proofs.lemmas.Bool.{eqb-true}
use Rattle.std.proofs.lemmas.Bool.Decides.{nat_tests}
use Rattle.rule_base.specs.declared.entries.Cell.{Cell}
use Rattle.rule_base.specs.History.{touches}
use Rattle.rule_ring.specs.Filters.{Filters}

-- the bit of part p, below 256, that an address sets
unfoldable pub part_bit : ℕ → ℕ → ℕ
part_bit zero a = a % 256
part_bit (suc zero) a = a / 256 % 256
part_bit (suc (suc zero)) a = a * 2654435761 % 2 ^ 32 / 2 ^ 24 % 256
part_bit (suc (suc (suc p))) a = a * 2246822519 % 2 ^ 32 / 2 ^ 24 % 256

part_bit-low : (p a : ℕ) → part_bit p a < 256
unfolding part_bit
part_bit-low zero a = omega arith
part_bit-low (suc zero) a = omega arith
part_bit-low (suc (suc zero)) a = omega arith
part_bit-low (suc (suc (suc p))) a = omega arith

-- what an address sets in word i: words 4p to 4p + 3 are of part p,
-- and bit b of a part is bit b mod 64 of its word b div 64
abbrev pub address_word : ℕ → ℕ → ℕ
address_word a i = if part_bit (i / 4) a / 64 == i % 4 then 2 ^ (part_bit (i / 4) a % 64) else 0

abbrev pub filter_word : List Cell → ℕ → ℕ
filter_word [] i = 0
filter_word (c ∷ cs) i = bit_or (address_word c.at i) (filter_word cs i)

-- one of four words has a bit
abbrev pub some_of : ℕ → ℕ → ℕ → ℕ → Bool
some_of a b c d = if a == 0 then (if b == 0 then (if c == 0 then not (d == 0) else true) else true) else true

abbrev pub part_meets : (ℕ → ℕ) → (ℕ → ℕ) → ℕ → Bool
part_meets f g i = some_of (bit_and (f i) (g i)) (bit_and (f (i + 1)) (g (i + 1))) (bit_and (f (i + 2)) (g (i + 2))) (bit_and (f (i + 3)) (g (i + 3)))

abbrev pub all_of : Bool → Bool → Bool → Bool → Bool
all_of a b c d = if a then (if b then (if c then d else false) else false) else false

abbrev pub filters_meet : (ℕ → ℕ) → (ℕ → ℕ) → Bool
filters_meet f g = all_of (part_meets f g 0) (part_meets f g 4) (part_meets f g 8) (part_meets f g 12)

has_bit : (x y : ℕ) → bit_at x y ≡ 1 → x ≡ 0 → ⊥
has_bit x y e z = let k : bit_at x y ≡ 0 = ap (λ n. bit_at n y) z ∙ bit_at-zero y in omega arith

-- the bit of a part that an address sets is in its word of the filter
sets : (p a : ℕ) (x y : ℕ) → x ≡ p → y ≡ part_bit p a / 64 → bit_at (if part_bit x a / 64 == y then 2 ^ (part_bit x a % 64) else 0) (part_bit p a % 64) ≡ 1
sets p a x y e f =
    let same : (part_bit x a / 64 == y) ≡ true = ap (λ q. part_bit q a / 64 == y) e ∙ (ap (λ q. part_bit p a / 64 == q) f ∙ self (part_bit p a / 64)) in
    ap (λ (b : Bool). bit_at (if b then 2 ^ (part_bit x a % 64) else 0) (part_bit p a % 64)) same ∙ (ap (λ q. bit_at (2 ^ (part_bit q a % 64)) (part_bit p a % 64)) e ∙ bit_at-pow_same (part_bit p a % 64))
  where
    self : (n : ℕ) → (n == n) ≡ true
    self n = grind (arith, nat_tests)

bit_one : (a b : ℕ) → a ≡ 1 → b < 2 → max a b ≡ 1
bit_one a b e l = grind (arith, e, l)

bit_other : (a b : ℕ) → b ≡ 1 → a < 2 → max a b ≡ 1
bit_other a b e l = grind (arith, e, l)

in_filter : (cs : List Cell) (a i k : ℕ) → touches cs a ≡ true → bit_at (address_word a i) k ≡ 1 → bit_at (filter_word cs i) k ≡ 1
in_filter [] a i k t e = absurd cc
in_filter (c ∷ cs) a i k t e = bit_at_or (address_word c.at i) (filter_word cs i) k ∙ go (c.at == a) refl t (in_filter cs a i k)
  where
    go : (b : Bool) → (c.at == a) ≡ b → (if b then true else touches cs a) ≡ true
        → (touches cs a ≡ true → bit_at (address_word a i) k ≡ 1 → bit_at (filter_word cs i) k ≡ 1)
        → max (bit_at (address_word c.at i) k) (bit_at (filter_word cs i) k) ≡ 1
    go true q m rec = bit_one (bit_at (address_word c.at i) k) (bit_at (filter_word cs i) k) (subst (λ n. bit_at (address_word n i) k ≡ 1) (sym (eqb-true c.at a q)) e) (bit_at-lt (filter_word cs i) k)
    go false q m rec = bit_other (bit_at (address_word c.at i) k) (bit_at (filter_word cs i) k) (rec m e) (bit_at-lt (address_word c.at i) k)

some_first : (a b c d : ℕ) → (a ≡ 0 → ⊥) ⊎ ((b ≡ 0 → ⊥) ⊎ ((c ≡ 0 → ⊥) ⊎ (d ≡ 0 → ⊥))) → some_of a b c d ≡ true
some_first a b c d e = go (a == 0) (b == 0) (c == 0) (d == 0) refl refl refl refl e
  where
    go : (w x y z : Bool) → (a == 0) ≡ w → (b == 0) ≡ x → (c == 0) ≡ y → (d == 0) ≡ z
        → (a ≡ 0 → ⊥) ⊎ ((b ≡ 0 → ⊥) ⊎ ((c ≡ 0 → ⊥) ⊎ (d ≡ 0 → ⊥)))
        → (if w then (if x then (if y then not z else true) else true) else true) ≡ true
    go false x y z p q r s e = refl
    go true false y z p q r s e = refl
    go true true false z p q r s e = refl
    go true true true false p q r s e = refl
    go true true true true p q r s e = absurd (⊎_elim (λ k. k (eqb-true a 0 p)) (λ e. ⊎_elim (λ k. k (eqb-true b 0 q)) (λ e. ⊎_elim (λ k. k (eqb-true c 0 r)) (λ k. k (eqb-true d 0 s)) e) e) e)

-- a part of the filters of two lists with a common address has a common bit
part_shows : (p : ℕ) (xs ys : List Cell) (a : ℕ) → touches xs a ≡ true → touches ys a ≡ true → part_meets (filter_word xs) (filter_word ys) (4 * p) ≡ true
part_shows p xs ys a t u = some_first (at (4 * p)) (at (4 * p + 1)) (at (4 * p + 2)) (at (4 * p + 3)) (which (part_bit p a / 64) (let l = part_bit-low p a in omega arith) refl)
  where
    at : ℕ → ℕ
    at i = bit_and (filter_word xs i) (filter_word ys i)

    common : (j : ℕ) → j < 4 → part_bit p a / 64 ≡ j → bit_and (filter_word xs (4 * p + j)) (filter_word ys (4 * p + j)) ≡ 0 → ⊥
    common j l q =
        let k : bit_at (address_word a (4 * p + j)) (part_bit p a % 64) ≡ 1 = sets p a ((4 * p + j) / 4) ((4 * p + j) % 4) (omega arith) (let r : (4 * p + j) % 4 ≡ j = omega arith in r ∙ sym q) in
        has_bit (bit_and (filter_word xs (4 * p + j)) (filter_word ys (4 * p + j))) (part_bit p a % 64)
        (bit_at_and (filter_word xs (4 * p + j)) (filter_word ys (4 * p + j)) (part_bit p a % 64)
        ∙ (let x = in_filter xs a (4 * p + j) (part_bit p a % 64) t k in let y = in_filter ys a (4 * p + j) (part_bit p a % 64) u k in grind (arith, x, y)))

    which : (j : ℕ) → j < 4 → part_bit p a / 64 ≡ j → (at (4 * p) ≡ 0 → ⊥) ⊎ ((at (4 * p + 1) ≡ 0 → ⊥) ⊎ ((at (4 * p + 2) ≡ 0 → ⊥) ⊎ (at (4 * p + 3) ≡ 0 → ⊥)))
    which zero l q = inl (λ e. common 0 l q (ap (λ i. bit_and (filter_word xs i) (filter_word ys i)) (let o : 4 * p + 0 ≡ 4 * p = omega arith in o) ∙ e))
    which (suc zero) l q = inr (inl (common 1 l q))
    which (suc (suc zero)) l q = inr (inr (inl (common 2 l q)))
    which (suc (suc (suc zero))) l q = inr (inr (inr (common 3 l q)))
    which (suc (suc (suc (suc j)))) l q = absurd (omega arith)

pub filters-show : (xs ys : List Cell) (a : ℕ) → touches xs a ≡ true → touches ys a ≡ true → filters_meet (filter_word xs) (filter_word ys) ≡ true
filters-show xs ys a t u = λ i. all_of (part_shows 0 xs ys a t u i) (part_shows 1 xs ys a t u i) (part_shows 2 xs ys a t u i) (part_shows 3 xs ys a t u i)

part_same : (f g k : ℕ → ℕ) (p : ℕ) → p + 3 < 16 → ((i : ℕ) → i < 16 → f i ≡ g i) → part_meets f k p ≡ part_meets g k p
part_same f g k p l h =
    λ i.
    some_of (bit_and (h p (omega arith) i) (k p)) (bit_and (h (p + 1) (omega arith) i) (k (p + 1)))
    (bit_and (h (p + 2) (omega arith) i) (k (p + 2))) (bit_and (h (p + 3) (omega arith) i) (k (p + 3)))

pub filters-same : (f g k : ℕ → ℕ) → ((i : ℕ) → i < SLOT_WORDS → f i ≡ g i) → filters_meet f k ≡ filters_meet g k
filters-same f g k h = λ i. all_of (part_same f g k 0 (omega arith) h i) (part_same f g k 4 (omega arith) h i) (part_same f g k 8 (omega arith) h i) (part_same f g k 12 (omega arith) h i)

unfoldable pub slot_filter : Filters
slot_filter = record { word = filter_word; meets = filters_meet; same = filters-same; shows = filters-show }
