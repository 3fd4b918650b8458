-- The words of a filter: those of the ring are those of the logs, and the order of the addresses is free.
use Rattle.std.proofs.Common.{ℕ, zero, suc, ◌≡◌, ◌<◌, ◌≤◌, ◌+◌, ◌*◌, ◌/◌, ◌%◌, ◌^◌, List, [], ◌∷◌, ◌++◌, Bool, true, false, refl, sym, ap, ◌∙◌, arith}
use Rattle.std.specs.Prelude.{◌==◌, ◌&&◌, ◌||◌, not, if◌then◌else◌, bit_and, bit_or, max, map}
use Rattle.std.specs.Int.{bit_at}
use Rattle.std.proofs.lemmas.Bool.Decides.{nat_tests}
use Rattle.std.proofs.lemmas.Nat.Bits.{bit_at_or, same_from_bits}
use Rattle.stm_model.specs.Memories.{put}
use Rattle.rule_base.specs.declared.entries.Cell.{Cell}
use Rattle.rule_ring.specs.SlotFilter.{slot_filter}
use Rattle.rule_ring.specs.SlotFilter as ring
use Rattle.stm_logs.specs.Filters.{address_word, filter_word, word_meets, part_meets, meets, lowest_from, lowest_common}
use Rattle.stm_logs.specs.Filters as logs
use Rattle.stm_rule.specs.RecordsKept.{cells_of}

-- bits that are set stay so, in whatever order
or-again : (x y : ℕ) → bit_or x (bit_or x y) ≡ bit_or x y
or-again x y = same_from_bits (bit_or x (bit_or x y)) (bit_or x y) (λ i. bit_at_or x (bit_or x y) i ∙ (ap (max (bit_at x i)) (bit_at_or x y i) ∙ (again (bit_at x i) (bit_at y i) ∙ sym (bit_at_or x y i))))
  where
    again : (a b : ℕ) → max a (max a b) ≡ max a b
    again a b = omega arith

pub or-swap : (x y z : ℕ) → bit_or x (bit_or y z) ≡ bit_or y (bit_or x z)
or-swap x y z = same_from_bits (bit_or x (bit_or y z)) (bit_or y (bit_or x z)) (λ i.
    bit_at_or x (bit_or y z) i
    ∙ (ap (max (bit_at x i)) (bit_at_or y z i) ∙ (swap (bit_at x i) (bit_at y i) (bit_at z i) ∙ (sym (ap (max (bit_at y i)) (bit_at_or x z i)) ∙ sym (bit_at_or y (bit_or x z) i)))))
  where
    swap : (a b c : ℕ) → max a (max b c) ≡ max b (max a c)
    swap a b c = omega arith

-- the addresses of a log's items
abbrev pub addresses : List (ℕ × ℕ) → List ℕ
addresses ws = map (λ (w : ℕ × ℕ). w.0) ws

-- an item more adds the bits of its address, if they were not there
pub filter-put : (a x i : ℕ) (ws : List (ℕ × ℕ)) → filter_word (addresses (put a x ws)) i ≡ bit_or (address_word a i) (filter_word (addresses ws) i)
filter-put a x i [] = refl
filter-put a x i (w ∷ ws) = by (w.0 == a) refl (filter-put a x i ws)
  where
    by : (b : Bool) → (w.0 == a) ≡ b → filter_word (addresses (put a x ws)) i ≡ bit_or (address_word a i) (filter_word (addresses ws) i)
        → filter_word (addresses (if b then (a, x) ∷ ws else w ∷ put a x ws)) i
        ≡ bit_or (address_word a i) (bit_or (address_word w.0 i) (filter_word (addresses ws) i))
    by true q rec =
        let same : w.0 ≡ a = grind (arith, nat_tests) in
        sym (ap (λ (b : ℕ). bit_or (address_word a i) (bit_or (address_word b i) (filter_word (addresses ws) i))) same
        ∙ or-again (address_word a i) (filter_word (addresses ws) i))
    by false q rec = ap (bit_or (address_word w.0 i)) rec ∙ or-swap (address_word w.0 i) (address_word a i) (filter_word (addresses ws) i)

-- THE RING'S FILTER
part_bit-same : (p a : ℕ) → ring.part_bit p a ≡ logs.part_bit p a
unfolding ring.part_bit logs.part_bit
part_bit-same zero a = refl
part_bit-same (suc zero) a = refl
part_bit-same (suc (suc zero)) a = low (a * 2654435761)
  where
    low : (k : ℕ) → k % 2 ^ 32 / 2 ^ 24 % 256 ≡ k % 2 ^ 32 / 2 ^ 24
    low k = omega arith
part_bit-same (suc (suc (suc p))) a = low (a * 2246822519)
  where
    low : (k : ℕ) → k % 2 ^ 32 / 2 ^ 24 % 256 ≡ k % 2 ^ 32 / 2 ^ 24
    low k = omega arith

word-same : (a i : ℕ) → ring.address_word a i ≡ address_word a i
word-same a i = ap (λ (b : ℕ). if b / 64 == i % 4 then 2 ^ (b % 64) else 0) (part_bit-same (i / 4) a)

-- of a cell more
pub slot-more : (c : Cell) (cs : List Cell) (i : ℕ) → slot_filter.word (c ∷ cs) i ≡ bit_or (address_word c.at i) (slot_filter.word cs i)
unfolding slot_filter
slot-more c cs i = ap (λ (w : ℕ). bit_or w (ring.filter_word cs i)) (word-same c.at i)

slot-none : (i : ℕ) → slot_filter.word [] i ≡ 0
unfolding slot_filter
slot-none i = refl

slot-last : (cs : List Cell) (c : Cell) (i : ℕ) → slot_filter.word (cs ++ c ∷ []) i ≡ slot_filter.word (c ∷ cs) i
slot-last [] c i = refl
slot-last (d ∷ cs) c i =
    slot-more d (cs ++ c ∷ []) i ∙ (ap (bit_or (address_word d.at i)) (slot-last cs c i ∙ slot-more c cs i)
    ∙ (or-swap (address_word d.at i) (address_word c.at i) (slot_filter.word cs i) ∙ (ap (bit_or (address_word c.at i)) (sym (slot-more d cs i)) ∙ sym (slot-more c (d ∷ cs) i))))

-- the filter of a log's cells is that of its items
pub slot-cells : (ws : List (ℕ × ℕ)) (i : ℕ) → slot_filter.word (cells_of ws) i ≡ filter_word (addresses ws) i
slot-cells [] i = slot-none i
slot-cells (w ∷ ws) i = slot-last (cells_of ws) (record { at = w.0; value = w.1 }) i ∙ (slot-more (record { at = w.0; value = w.1 }) (cells_of ws) i ∙ ap (bit_or (address_word w.0 i)) (slot-cells ws i))

-- a write more adds the bits of its address
pub slot-put : (a x i : ℕ) (ws : List (ℕ × ℕ)) → slot_filter.word (cells_of (put a x ws)) i ≡ bit_or (address_word a i) (slot_filter.word (cells_of ws) i)
slot-put a x i ws = slot-cells (put a x ws) i ∙ (filter-put a x i ws ∙ ap (bit_or (address_word a i)) (sym (slot-cells ws i)))

-- FILTERS OF THE SAME WORDS
module _ (f g h : ℕ → ℕ) (same : (i : ℕ) → i < 16 → f i ≡ g i) where
  word : (i : ℕ) → i < 16 → word_meets f h i ≡ word_meets g h i
  word i low = ap (λ (k : ℕ). not (bit_and k (h i) == 0)) (same i low)

  pub part-by : (p : ℕ) → p < 4 → part_meets f h p ≡ part_meets g h p
  part-by p low = λ i. word (4 * p) (omega arith) i || (word (4 * p + 1) (omega arith) i || (word (4 * p + 2) (omega arith) i || word (4 * p + 3) (omega arith) i))

  pub meets-same : meets f h ≡ meets g h
  meets-same = λ i. part-by 0 (omega arith) i && (part-by 1 (omega arith) i && (part-by 2 (omega arith) i && part-by 3 (omega arith) i))

  lowest-from : (n i : ℕ) → i + n ≤ 16 → lowest_from f h i n ≡ lowest_from g h i n
  unfolding lowest_from
  lowest-from zero i low = refl
  lowest-from (suc n) i low = λ j. if bit_and (same i (omega arith) j) (h i) == 0 then lowest-from n (i + 1) (omega arith) j else bit_and (same i (omega arith) j) (h i)

  pub lowest-same : lowest_common f h ≡ lowest_common g h
  lowest-same = lowest-from 16 0 (omega arith)
