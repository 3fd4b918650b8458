-- The ring's words by time and index, the entry of a time, and the slot words that a reader has loaded.
use Rattle.std.proofs.Common.{◌≡◌, ℕ, zero, suc, ◌+◌, ◌*◌, ◌%◌, ◌<◌, ◌≤◌, List, [], ◌∷◌, Bool, true, false, refl, sym, ap, ◌∙◌, arith, ◌/◌, mul-le-mul_right, suc-mul, lt_of_not-le, div-add-mod'}
use Rattle.std.specs.Prelude.{if◌then◌else◌, ◌==◌}
use native.Mathlib.Decide.{dec_le}
use Rattle.rule_base.specs.declared.entries.Cell.{Cell}
use Rattle.rule_base.specs.declared.entries.Entry.{Entry}
use Rattle.rule_base.specs.declared.layout.TheConstants.{SLOT_WORDS}
use Rattle.rule_base.specs.declared.views.SlotWord.{SlotWord}
use Rattle.rule_base.specs.History.{touches, word_at, Below}
use Rattle.rule_base.specs.Lemmas.HistoryLemmas.{over-miss}
use Rattle.rule_ring.specs.Filters.{Filters}

-- word i of the slot of time e, in a ring of so many slots
unfoldable pub slot_place : ℕ → ℕ → ℕ → ℕ
slot_place ring e i = (e % ring) * SLOT_WORDS + i

-- two words of the ring are apart where their slots or their indices are
pub slot_place-apart : (ring e f i j : ℕ) → i < SLOT_WORDS → j < SLOT_WORDS → slot_place ring e i ≡ slot_place ring f j → (e % ring ≡ f % ring) × (i ≡ j)
unfolding slot_place
slot_place-apart ring e f i j low less q = parted (e % ring) (f % ring) q
  where
    parted : (k l : ℕ) → k * SLOT_WORDS + i ≡ l * SLOT_WORDS + j → (k ≡ l) × (i ≡ j)
    parted k l p = (omega arith, omega arith)

-- each is a word of the ring
pub slot_place-inside : (ring e i : ℕ) → 0 < ring → i < SLOT_WORDS → slot_place ring e i < ring * SLOT_WORDS
unfolding slot_place
slot_place-inside ring e i some low = within (e % ring) (let m : e % ring < ring = grind (arith, some) in m)
  where
    within : (k : ℕ) → k < ring → k * SLOT_WORDS + i < ring * SLOT_WORDS
    within k l = omega arith

further : (x y n : ℕ) → x < y → x * n + n ≤ y * n
further x y n h = let a : suc x * n ≤ y * n = mul-le-mul_right n h in omega (arith, suc-mul x n)

turns : (a b n : ℕ) → a ≤ b → b < a + n → a % n ≡ b % n → Dec (b / n ≤ a / n) → a ≡ b
turns a b n le lt e (yes d) = let m : b / n * n ≤ a / n * n = mul-le-mul_right n d in let p = div-add-mod' a n in let q = div-add-mod' b n in
    let x : ℕ = a / n * n in let y : ℕ = b / n * n in let r : ℕ = b % n in let p' : x + r ≡ a = ap (λ (k : ℕ). x + k) (sym e) ∙ p in let q' : y + r ≡ b = q in let m' : y ≤ x = m in omega arith
turns a b n le lt e (no d) = let m = further (a / n) (b / n) n (lt_of_not-le d) in let p = div-add-mod' a n in let q = div-add-mod' b n in
    let x : ℕ = a / n * n in let y : ℕ = b / n * n in let r : ℕ = b % n in let p' : x + r ≡ a = ap (λ (k : ℕ). x + k) (sym e) ∙ p in let q' : y + r ≡ b = q in let m' : x + n ≤ y = m in absurd (omega arith)

-- two numbers less than n apart, with one remainder, are one number
one_turn : (a b n : ℕ) → a ≤ b → b < a + n → a % n ≡ b % n → a ≡ b
one_turn a b n le lt e = turns a b n le lt e (dec_le (b / n) (a / n))

-- two times less than a turn apart have different slots
pub slots-apart : (ring e f : ℕ) → e < f → f < e + ring → e % ring ≡ f % ring → ⊥
slots-apart ring e f l m q = let same : e ≡ f = one_turn e f ring (omega arith) m q in omega arith

-- the writes of the entry of time t, and whether there is one
abbrev pub writes_of : List Entry → ℕ → List Cell
writes_of [] t = []
writes_of (e ∷ h) t = if e.time == t then e.writes else writes_of h t

abbrev pub has_entry : List Entry → ℕ → Bool
has_entry [] t = false
has_entry (e ∷ h) t = if e.time == t then true else has_entry h t

-- a word of a slot that was loaded
abbrev pub has_word : List SlotWord → ℕ → ℕ → Bool
has_word [] e i = false
has_word (x ∷ xs) e i = if x.time == e then (if x.index == i then true else has_word xs e i) else has_word xs e i

abbrev pub loaded_word : List SlotWord → ℕ → ℕ → ℕ
loaded_word [] e i = 0
loaded_word (x ∷ xs) e i = if x.time == e then (if x.index == i then x.value else loaded_word xs e i) else loaded_word xs e i

pub entry-before : (h : List Entry) (t e : ℕ) → Below h t → has_entry h e ≡ true → e < t
entry-before [] t e b m = absurd cc
entry-before (x ∷ h) t e b m = grind (arith, m, b.0, entry-before h x.time e b.1)

pub writes-none : (h : List Entry) (t : ℕ) → has_entry h t ≡ false → writes_of h t ≡ []
writes-none [] t m = refl
writes-none (e ∷ h) t m = grind (arith, writes-none h t, m)

pub word_at-below : (h : List Entry) (t s a : ℕ) → Below h t → t ≤ s + 1 → word_at h (s + 1) a ≡ word_at h s a
word_at-below [] t s a b l = refl
word_at-below (e ∷ h) t s a b l = grind (arith, word_at-below h e.time s a b.1)

-- the next time's memory differs only where its entry writes
pub word_at-next : (h : List Entry) (t s a : ℕ) → Below h t → touches (writes_of h (s + 1)) a ≡ false → word_at h (s + 1) a ≡ word_at h s a
word_at-next [] t s a b m = refl
word_at-next (e ∷ h) t s a b m = grind (arith, word_at-next h e.time s a b.1, over-miss e.writes a, word_at-below h e.time s a b.1)

-- a later entry leaves all of an earlier time
pub word_at-later : (h : List Entry) (e : Entry) (s a : ℕ) → s < e.time → word_at (e ∷ h) s a ≡ word_at h s a
word_at-later h e s a l = grind (arith, l)

pub entry-later : (h : List Entry) (e : Entry) (s : ℕ) → s < e.time → has_entry (e ∷ h) s ≡ has_entry h s
entry-later h e s l = grind (arith, l)

pub writes-later : (h : List Entry) (e : Entry) (s : ℕ) → s < e.time → writes_of (e ∷ h) s ≡ writes_of h s
writes-later h e s l = grind (arith, l)

module _ (F : Filters) where
  -- an entry whose filter doesn't meet that of an address leaves the address alone
  pub untouched : (h : List Entry) (e a : ℕ) (watched : List Cell) → (has_entry h e ≡ true → F.meets (F.word (writes_of h e)) (F.word watched) ≡ false) → touches watched a ≡ true → touches (writes_of h e) a ≡ false
  untouched h e a watched apart t = go (has_entry h e) refl
    where
      by : (b : Bool) → touches (writes_of h e) a ≡ b → F.meets (F.word (writes_of h e)) (F.word watched) ≡ false → b ≡ false
      by true m k = absurd (let f : true ≡ false = sym (F.shows (writes_of h e) watched a m t) ∙ k in cc)
      by false m k = refl

      go : (b : Bool) → has_entry h e ≡ b → touches (writes_of h e) a ≡ false
      go true m = by (touches (writes_of h e) a) refl (apart m)
      go false m = ap (λ (ws : List Cell). touches ws a) (writes-none h e m)

  -- the slots of the times after b and up to b + k don't touch the address: its word is the same at all these times
  pub clear : (h : List Entry) (t b a : ℕ) → Below h t → (k : ℕ) → ((e : ℕ) → b < e → e ≤ b + k → touches (writes_of h e) a ≡ false) → word_at h (b + k) a ≡ word_at h b a
  clear h t b a below zero none = ap (λ (s : ℕ). word_at h s a) (let z : b + 0 ≡ b = omega arith in z)
  clear h t b a below (suc k) none =
      let s : b + suc k ≡ (b + k) + 1 = omega arith in
      ap (λ (s : ℕ). word_at h s a) s ∙ word_at-next h t (b + k) a below (none ((b + k) + 1) (omega arith) (omega arith)) ∙ clear h t b a below k (λ e l m. none e l (omega arith))
