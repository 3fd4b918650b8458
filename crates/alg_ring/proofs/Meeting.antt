-- When two filters meet, by their words, and that the filters of the ring are those of the logs.
use Rattle.std.proofs.Common.{ℕ, zero, suc, ◌≡◌, ◌≢◌, ◌<◌, ◌≤◌, ◌+◌, ◌*◌, Bool, true, false, refl, sym, ap, ◌∙◌, arith}
use Rattle.std.proofs.Common.{◌⊎◌, inl, inr, ⊎_elim}
use Rattle.std.specs.Prelude.{◌==◌, ◌&&◌, ◌||◌, not, if◌then◌else◌, bit_and}
use Rattle.std.proofs.lemmas.Bool.Decides.{nat_tests}
use Rattle.std.proofs.lemmas.Nat.{and_comm}
use Rattle.rule_base.specs.declared.layout.TheConstants.{SLOT_WORDS}
use Rattle.rule_ring.specs.SlotFilter.{slot_filter}
use Rattle.rule_ring.specs.SlotFilter as ring
use Rattle.stm_logs.specs.Filters.{word_meets, part_meets, meets, lowest_from}

module _ (f g : ℕ → ℕ) where
  word-yes : (i : ℕ) → bit_and (f i) (g i) ≢ 0 → word_meets f g i ≡ true
  word-yes i some = grind (arith, nat_tests)

  word-no : (i : ℕ) → bit_and (f i) (g i) ≡ 0 → word_meets f g i ≡ false
  word-no i none = grind (arith, nat_tests)

  or-1 : (a b c d : Bool) → a ≡ true → (a || (b || (c || d))) ≡ true
  or-1 a b c d e = ap (λ (x : Bool). x || (b || (c || d))) e

  or-2 : (a b c d : Bool) → b ≡ true → (a || (b || (c || d))) ≡ true
  or-2 true b c d e = refl
  or-2 false b c d e = ap (λ (x : Bool). x || (c || d)) e

  or-3 : (a b c d : Bool) → c ≡ true → (a || (b || (c || d))) ≡ true
  or-3 true b c d e = refl
  or-3 false true c d e = refl
  or-3 false false c d e = ap (λ (x : Bool). x || d) e

  or-4 : (a b c d : Bool) → d ≡ true → (a || (b || (c || d))) ≡ true
  or-4 true b c d e = refl
  or-4 false true c d e = refl
  or-4 false false true d e = refl
  or-4 false false false d e = e

  -- a part meets by one of its words
  pub part-yes : (p j : ℕ) → 4 * p ≤ j → j < 4 * p + 4 → bit_and (f j) (g j) ≢ 0 → part_meets f g p ≡ true
  part-yes p j low high some = go which
    where
      a : ℕ → Bool
      a i = word_meets f g i

      at : (i : ℕ) → j ≡ i → a i ≡ true
      at i e = word-yes i (λ z. some (ap (λ k. bit_and (f k) (g k)) e ∙ z))

      which : (j ≡ 4 * p) ⊎ ((j ≡ 4 * p + 1) ⊎ ((j ≡ 4 * p + 2) ⊎ (j ≡ 4 * p + 3)))
      which = by (j == 4 * p) refl (j == 4 * p + 1) refl (j == 4 * p + 2) refl
        where
          by : (x : Bool) → (j == 4 * p) ≡ x → (y : Bool) → (j == 4 * p + 1) ≡ y → (z : Bool) → (j == 4 * p + 2) ≡ z → (j ≡ 4 * p) ⊎ ((j ≡ 4 * p + 1) ⊎ ((j ≡ 4 * p + 2) ⊎ (j ≡ 4 * p + 3)))
          by true q y r z s = inl (grind (arith, nat_tests))
          by false q true r z s = inr (inl (grind (arith, nat_tests)))
          by false q false r true s = inr (inr (inl (grind (arith, nat_tests))))
          by false q false r false s = inr (inr (inr (grind (arith, nat_tests))))

      go : (j ≡ 4 * p) ⊎ ((j ≡ 4 * p + 1) ⊎ ((j ≡ 4 * p + 2) ⊎ (j ≡ 4 * p + 3))) → part_meets f g p ≡ true
      go w =
          ⊎_elim (λ e. or-1 (a (4 * p)) (a (4 * p + 1)) (a (4 * p + 2)) (a (4 * p + 3)) (at (4 * p) e))
          (λ w.
          ⊎_elim (λ e. or-2 (a (4 * p)) (a (4 * p + 1)) (a (4 * p + 2)) (a (4 * p + 3)) (at (4 * p + 1) e))
          (λ w.
          ⊎_elim (λ e. or-3 (a (4 * p)) (a (4 * p + 1)) (a (4 * p + 2)) (a (4 * p + 3)) (at (4 * p + 2) e))
          (λ e. or-4 (a (4 * p)) (a (4 * p + 1)) (a (4 * p + 2)) (a (4 * p + 3)) (at (4 * p + 3) e)) w) w) w

  -- and not, where none of them has a common bit
  pub part-no : (p : ℕ) → ((i : ℕ) → 4 * p ≤ i → i < 4 * p + 4 → bit_and (f i) (g i) ≡ 0) → part_meets f g p ≡ false
  part-no p none =
      λ i.
      word-no (4 * p) (none (4 * p) (omega arith) (omega arith)) i
      || (word-no (4 * p + 1) (none (4 * p + 1) (omega arith) (omega arith)) i
      || (word-no (4 * p + 2) (none (4 * p + 2) (omega arith) (omega arith)) i
      || word-no (4 * p + 3) (none (4 * p + 3) (omega arith) (omega arith)) i))

  -- a part is of its four words
  pub part-same : (h : ℕ → ℕ) (p : ℕ) → ((i : ℕ) → 4 * p ≤ i → i < 4 * p + 4 → g i ≡ h i) → part_meets f g p ≡ part_meets f h p
  part-same h p same = λ i. at (4 * p) (omega arith) (omega arith) i || (at (4 * p + 1) (omega arith) (omega arith) i || (at (4 * p + 2) (omega arith) (omega arith) i || at (4 * p + 3) (omega arith) (omega arith) i))
    where
      at : (k : ℕ) → 4 * p ≤ k → k < 4 * p + 4 → word_meets f g k ≡ word_meets f h k
      at k a b = ap (λ (x : ℕ). not (bit_and (f k) x == 0)) (same k a b)

  pub meets-yes : ((p : ℕ) → p < 4 → part_meets f g p ≡ true) → meets f g ≡ true
  meets-yes all = λ i. all 0 (omega arith) i && (all 1 (omega arith) i && (all 2 (omega arith) i && all 3 (omega arith) i))

  and-no-1 : (a b c d : Bool) → a ≡ false → (a && (b && (c && d))) ≡ false
  and-no-1 a b c d e = ap (λ (x : Bool). x && (b && (c && d))) e

  and-no-2 : (a b c d : Bool) → b ≡ false → (a && (b && (c && d))) ≡ false
  and-no-2 true b c d e = ap (λ (x : Bool). x && (c && d)) e
  and-no-2 false b c d e = refl

  and-no-3 : (a b c d : Bool) → c ≡ false → (a && (b && (c && d))) ≡ false
  and-no-3 true true c d e = ap (λ (x : Bool). x && d) e
  and-no-3 true false c d e = refl
  and-no-3 false b c d e = refl

  and-no-4 : (a b c d : Bool) → d ≡ false → (a && (b && (c && d))) ≡ false
  and-no-4 true true true d e = e
  and-no-4 true true false d e = refl
  and-no-4 true false c d e = refl
  and-no-4 false b c d e = refl

  pub meets-no : (p : ℕ) → p < 4 → part_meets f g p ≡ false → meets f g ≡ false
  meets-no zero l e = and-no-1 (part_meets f g 0) (part_meets f g 1) (part_meets f g 2) (part_meets f g 3) e
  meets-no (suc zero) l e = and-no-2 (part_meets f g 0) (part_meets f g 1) (part_meets f g 2) (part_meets f g 3) e
  meets-no (suc (suc zero)) l e = and-no-3 (part_meets f g 0) (part_meets f g 1) (part_meets f g 2) (part_meets f g 3) e
  meets-no (suc (suc (suc zero))) l e = and-no-4 (part_meets f g 0) (part_meets f g 1) (part_meets f g 2) (part_meets f g 3) e
  meets-no (suc (suc (suc (suc p)))) l e = absurd (omega arith)

  -- the first word with common bits has the lowest
  pub lowest-at : (n i j : ℕ) → i ≤ j → j < i + n → ((k : ℕ) → i ≤ k → k < j → bit_and (f k) (g k) ≡ 0) → bit_and (f j) (g j) ≢ 0 → lowest_from f g i n ≡ bit_and (f j) (g j)
  unfolding lowest_from
  lowest-at zero i j low high none some = absurd (omega arith)
  lowest-at (suc n) i j low high none some = by (bit_and (f i) (g i) == 0) refl (i == j) refl (lowest-at n (i + 1) j)
    where
      by : (z : Bool) → (bit_and (f i) (g i) == 0) ≡ z → (e : Bool) → (i == j) ≡ e
          → (i + 1 ≤ j → j < i + 1 + n → ((k : ℕ) → i + 1 ≤ k → k < j → bit_and (f k) (g k) ≡ 0) → bit_and (f j) (g j) ≢ 0
          → lowest_from f g (i + 1) n ≡ bit_and (f j) (g j))
          → (if z then lowest_from f g (i + 1) n else bit_and (f i) (g i)) ≡ bit_and (f j) (g j)
      by true z true e rec = absurd (let s : i ≡ j = grind (arith, nat_tests) in some (ap (λ k. bit_and (f k) (g k)) (sym s) ∙ grind (arith, nat_tests)))
      by true z false e rec = let d : i ≢ j = grind (arith, nat_tests) in rec (omega arith) (omega arith) (λ k a b. none k (omega arith) b) some
      by false z true e rec = let s : i ≡ j = grind (arith, nat_tests) in ap (λ k. bit_and (f k) (g k)) s
      by false z false e rec = absurd (let d : i ≢ j = grind (arith, nat_tests) in let o : i < j = omega arith in let q = none i (omega arith) o in grind (arith, nat_tests))

-- the ring's own test is the same, whichever filter comes first
some-or : (a b c d : ℕ) → ring.some_of a b c d ≡ (not (a == 0) || (not (b == 0) || (not (c == 0) || not (d == 0))))
some-or a b c d = by (a == 0) (b == 0) (c == 0) (d == 0)
  where
    by : (w x y z : Bool) → (if w then (if x then (if y then not z else true) else true) else true) ≡ (not w || (not x || (not y || not z)))
    by true true true z = refl
    by true true false z = refl
    by true false y z = refl
    by false x y z = refl

all-and : (a b c d : Bool) → ring.all_of a b c d ≡ (a && (b && (c && d)))
all-and true true true d = refl
all-and true true false d = refl
all-and true false c d = refl
all-and false b c d = refl

pub ring-meets : (slot word f : ℕ → ℕ) → ((i : ℕ) → i < SLOT_WORDS → f i ≡ word i) → slot_filter.meets slot word ≡ meets f slot
unfolding slot_filter
ring-meets slot word f same = all-and (ring.part_meets slot word 0) (ring.part_meets slot word 4) (ring.part_meets slot word 8) (ring.part_meets slot word 12)
    ∙ (λ i. part 0 (omega arith) i && (part 1 (omega arith) i && (part 2 (omega arith) i && part 3 (omega arith) i)))
  where
    one : (i : ℕ) → i < 16 → bit_and (slot i) (word i) ≡ bit_and (f i) (slot i)
    one i low = and_comm (slot i) (word i) ∙ ap (λ k. bit_and k (slot i)) (sym (same i low))

    part : (p : ℕ) → p < 4 → ring.part_meets slot word (4 * p) ≡ part_meets f slot p
    part p low = some-or (bit_and (slot (4 * p)) (word (4 * p))) (bit_and (slot (4 * p + 1)) (word (4 * p + 1))) (bit_and (slot (4 * p + 2)) (word (4 * p + 2))) (bit_and (slot (4 * p + 3)) (word (4 * p + 3)))
        ∙ (λ i. not (one (4 * p) (omega arith) i == 0) || (not (one (4 * p + 1) (omega arith) i == 0) || (not (one (4 * p + 2) (omega arith) i == 0) || not (one (4 * p + 3) (omega arith) i == 0))))
