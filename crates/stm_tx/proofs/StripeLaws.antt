-- Each word that a log has is that of an item; and the filter of what was loaded has its bits.
use Rattle.std.proofs.Common.{ℕ, zero, suc, ◌+◌, ◌≡◌, ◌<◌, ◌/◌, ◌%◌, ◌^◌, ◌⊎◌, inl, inr, List, [], ◌∷◌, ◌++◌, length, slice_index_or, Bool, true, false, refl, sym, ap, ◌∙◌, subst, arith}
use Rattle.std.specs.Int.{bit_at}
use Rattle.std.specs.Prelude.{◌==◌, if◌then◌else◌, bit_or, map, max}
use Rattle.std.proofs.Math.Nat.{eq-or-lt_of_le}
use Rattle.std.proofs.lemmas.Bool.{eqb-true}
use Rattle.std.proofs.lemmas.Bool.Decides.{nat_tests}
use Rattle.std.proofs.lemmas.Nat.Bits.{bit_at_or, bit_at-lt, bit_at-pow_same}
use Rattle.rule_base.specs.Bridge.{addresses}
use Rattle.rule_base.specs.History.{member, touches}
use Rattle.rule_base.specs.declared.entries.Cell.{Cell}
use Rattle.stm_rule.specs.RecordsKept.{cells_of}
use Rattle.stm_bell.specs.declared.stripes.Stripes.{Stripes}
use Rattle.stm_bell.specs.Stripes.{Has, Covers}
use Rattle.stm_logs.specs.Filters.{part_bit, address_word, filter_word}

-- the item of an address, by its number
abbrev pub ItemOf : List (ℕ × ℕ) → ℕ → Type 0
ItemOf ws a = (k : ℕ) × (k < length ws) × ((slice_index_or ws k (0, 0)).0 ≡ a)

pub item-of : (ws : List (ℕ × ℕ)) (a : ℕ) → member (addresses ws) a ≡ true → ItemOf ws a
item-of [] a m = absurd cc
item-of (w ∷ ws) a m = by (w.0 == a) refl m (item-of ws a)
  where
    by : (b : Bool) → (w.0 == a) ≡ b → (if b then true else member (addresses ws) a) ≡ true → (member (addresses ws) a ≡ true → ItemOf ws a) → ItemOf (w ∷ ws) a
    by true e m deeper = (0, omega arith, eqb-true w.0 a e)
    by false e m deeper = let r = deeper m in (suc r.0, omega (arith, r.1), r.2)

-- the stripes of the first i items, and of one more
pub added : (ws : List (ℕ × ℕ)) (i : ℕ) (w : ℕ × ℕ) (s t : Stripes) → w ≡ slice_index_or ws i (0, 0) → Has w.0 t → Covers t s
    → ((k : ℕ) → k < i → Has (slice_index_or ws k (0, 0)).0 s) → (k : ℕ) → k < i + 1 → Has (slice_index_or ws k (0, 0)).0 t
added ws i w s t is there stays had k l = by (eq-or-lt_of_le (omega arith))
  where
    by : (k ≡ i) ⊎ (k < i) → Has (slice_index_or ws k (0, 0)).0 t
    by (inl e) = subst (λ (j : ℕ). Has (slice_index_or ws j (0, 0)).0 t) (sym e) (subst (λ (p : ℕ × ℕ). Has p.0 t) is there)
    by (inr m) = stays (slice_index_or ws k (0, 0)).0 (had k m)

touches-last : (cs : List Cell) (w : Cell) (a : ℕ) → touches (cs ++ w ∷ []) a ≡ (if w.at == a then true else touches cs a)
touches-last [] w a = refl
touches-last (c ∷ cs) w a = by (c.at == a) (w.at == a) (touches-last cs w a)
  where
    by : (b d : Bool) → touches (cs ++ w ∷ []) a ≡ (if d then true else touches cs a) → (if b then true else touches (cs ++ w ∷ []) a) ≡ (if d then true else (if b then true else touches cs a))
    by true true e = refl
    by true false e = refl
    by false true e = e
    by false false e = e

-- the cells of a log are of its addresses
pub cells-member : (ws : List (ℕ × ℕ)) (a : ℕ) → touches (cells_of ws) a ≡ member (addresses ws) a
cells-member [] a = refl
cells-member (w ∷ ws) a = touches-last (cells_of ws) (record { at = w.0; value = w.1 }) a ∙ ap (λ (b : Bool). if w.0 == a then true else b) (cells-member ws a)

-- THE FILTER: its first part has the bit of each address
first-bit : (a i : ℕ) → i ≡ a % 256 / 64 → bit_at (address_word a i) (a % 64) ≡ 1
unfolding part_bit
first-bit a i e =
    let part : i / 4 ≡ 0 = omega arith in
    let word : i % 4 ≡ a % 256 / 64 = omega arith in
    let bit : a % 256 % 64 ≡ a % 64 = omega arith in
    let here : (a % 256 / 64 == a % 256 / 64) ≡ true = grind (arith, nat_tests) in
    ap (λ (p : ℕ). bit_at (if part_bit p a / 64 == i % 4 then 2 ^ (part_bit p a % 64) else 0) (a % 64)) part
    ∙ (ap (λ (q : ℕ). bit_at (if a % 256 / 64 == q then 2 ^ (a % 256 % 64) else 0) (a % 64)) word
    ∙ (ap (λ (b : Bool). bit_at (if b then 2 ^ (a % 256 % 64) else 0) (a % 64)) here
    ∙ (ap (λ (k : ℕ). bit_at (2 ^ k) (a % 64)) bit ∙ bit_at-pow_same (a % 64))))

pub filter-bit : (xs : List ℕ) (a i : ℕ) → i ≡ a % 256 / 64 → member xs a ≡ true → bit_at (filter_word xs i) (a % 64) ≡ 1
filter-bit [] a i e m = absurd cc
filter-bit (x ∷ xs) a i e m = bit_at_or (address_word x i) (filter_word xs i) (a % 64) ∙ by (x == a) refl m (filter-bit xs a i e)
  where
    one : (y z : ℕ) → y ≡ 1 → z < 2 → max y z ≡ 1
    one y z f l = grind (arith, f, l)

    other : (y z : ℕ) → z ≡ 1 → y < 2 → max y z ≡ 1
    other y z f l = grind (arith, f, l)

    by : (b : Bool) → (x == a) ≡ b → (if b then true else member xs a) ≡ true → (member xs a ≡ true → bit_at (filter_word xs i) (a % 64) ≡ 1)
        → max (bit_at (address_word x i) (a % 64)) (bit_at (filter_word xs i) (a % 64)) ≡ 1
    by true q n deeper = one (bit_at (address_word x i) (a % 64)) (bit_at (filter_word xs i) (a % 64))
        (subst (λ (k : ℕ). bit_at (address_word k i) (a % 64) ≡ 1) (sym (eqb-true x a q)) (first-bit a i e)) (bit_at-lt (filter_word xs i) (a % 64))
    by false q n deeper = other (bit_at (address_word x i) (a % 64)) (bit_at (filter_word xs i) (a % 64)) (deeper n) (bit_at-lt (address_word x i) (a % 64))

-- one of four words has the bit
pub or-bit : (f : ℕ → ℕ) (i k : ℕ) → i < 4 → bit_at (f i) k ≡ 1 → bit_at (bit_or (bit_or (bit_or (f 0) (f 1)) (f 2)) (f 3)) k ≡ 1
or-bit f i k low e = all ∙ by i low e
  where
    l : (j : ℕ) → bit_at (f j) k < 2
    l j = bit_at-lt (f j) k

    all : bit_at (bit_or (bit_or (bit_or (f 0) (f 1)) (f 2)) (f 3)) k ≡ max (max (max (bit_at (f 0) k) (bit_at (f 1) k)) (bit_at (f 2) k)) (bit_at (f 3) k)
    all = bit_at_or (bit_or (bit_or (f 0) (f 1)) (f 2)) (f 3) k
        ∙ ap (λ (x : ℕ). max x (bit_at (f 3) k))
        (bit_at_or (bit_or (f 0) (f 1)) (f 2) k ∙ ap (λ (x : ℕ). max x (bit_at (f 2) k)) (bit_at_or (f 0) (f 1) k))

    by : (j : ℕ) → j < 4 → bit_at (f j) k ≡ 1 → max (max (max (bit_at (f 0) k) (bit_at (f 1) k)) (bit_at (f 2) k)) (bit_at (f 3) k) ≡ 1
    by zero m q = let b = l 1 in let c = l 2 in let d = l 3 in grind (arith, q, b, c, d)
    by (suc zero) m q = let a = l 0 in let c = l 2 in let d = l 3 in grind (arith, q, a, c, d)
    by (suc (suc zero)) m q = let a = l 0 in let b = l 1 in let d = l 3 in grind (arith, q, a, b, d)
    by (suc (suc (suc zero))) m q = let a = l 0 in let b = l 1 in let c = l 2 in grind (arith, q, a, b, c)
    by (suc (suc (suc (suc j)))) m q = absurd (omega arith)

pub or-words : (f : ℕ → ℕ) (w x y z : ℕ) → w ≡ f 0 → x ≡ f 1 → y ≡ f 2 → z ≡ f 3 → (i k : ℕ) → i < 4 → bit_at (f i) k ≡ 1 → bit_at (bit_or (bit_or (bit_or w x) y) z) k ≡ 1
or-words f w x y z p q r s i k low e = (λ j. bit_at (bit_or (bit_or (bit_or (p j) (q j)) (r j)) (s j)) k) ∙ or-bit f i k low e

-- the addresses that were read, as the filter has them
pub mapped : (ws : List (ℕ × ℕ)) → map (λ (r : ℕ × ℕ). r.0) ws ≡ addresses ws
mapped [] = refl
mapped (w ∷ ws) = ap (λ (xs : List ℕ). w.0 ∷ xs) (mapped ws)
