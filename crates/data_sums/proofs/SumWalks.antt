-- What reads and writes, in turn, show of the memory before them and the one after.
use Rattle.std.proofs.Common.{ℕ, zero, suc, ◌≡◌, ◌<◌, ◌≤◌, ◌≢◌, ◌+◌, List, length, Bool, true, false, refl, sym, ap, ◌∙◌, arith, subst, inl, inr}
use Rattle.std.specs.Prelude.{◌⊎◌, ◌||◌, ◌==◌, not, ltb, if◌then◌else◌, slice_index}
use Rattle.std.proofs.lemmas.List.{get_or-set_other}
use Rattle.std.proofs.lemmas.Bool.Decides.{nat_tests}
use Rattle.stm_model.specs.Memories.{overlay, Explains, is_empty}
use Rattle.stm_model.specs.Logs.{Log, Reads, SameMemories, IsExplained}
use Rattle.stm_model.specs.Overlays.{reads-see}
use Rattle.data_effects.specs.Effects.{Effect, DoesOver, Shows, Turns}
use Rattle.data_sums.specs.declared.sum_map.SumMap.{SumMap}
use Rattle.data_sums.specs.Sums.{tag_at, left_at, right_at, sum_at, tag, LinksInside, side_at, raised, mended_by, mended, mended_in}

-- between l and k: R of the memory seen under l and the one seen under k
abbrev pub Walks : (List ℕ → Type 0) → ℕ → Log → Log → (List ℕ → List ℕ → Type 0) → Type 0
Walks good words l k R = (m : List ℕ) → good m → length m ≡ words → Explains m k.reads → Explains m l.reads × R (overlay m l.writes) (overlay m k.writes)

module _ (good : List ℕ → Type 0) (words : ℕ) (l : Log) where
  pub walks-shown : (k : Log) (P : List ℕ → Type 0) (Q : List ℕ → List ℕ → Type 0) → Shows good words l k P → k.writes ≡ l.writes → ((m : List ℕ) → P m → Q m m) → Walks good words l k Q
  walks-shown k P Q h ws next = λ m g len ex. let p = h m g len ex in (p.0, subst (λ w. Q (overlay m l.writes) (overlay m w)) (sym ws) (next (overlay m l.writes) p.1))

  pub walks-read : (k j : Log) (P Q : List ℕ → List ℕ → Type 0) (a v : ℕ) → Walks good words l k P → a < words → Reads k a v j → ((m x : List ℕ) → P m x → v ≡ slice_index x a → Q m x) → Walks good words l j Q
  walks-read k j P Q a v h lt rd next = λ m g len ex.
      let s = reads-see m k a v j (subst (λ n. a < n) (sym len) lt) rd ex in
      let p = h m g len s.0 in
      (p.0, subst (λ w. Q (overlay m l.writes) (overlay m w)) (sym rd.0) (next (overlay m l.writes) (overlay m k.writes) p.1 (sym s.1)))

  pub walks-turns : (k j : Log) (P Q : List ℕ → List ℕ → Type 0) (f : List ℕ → List ℕ) → Walks good words l k P → Turns k j f → ((m x : List ℕ) → P m x → Q m (f x)) → Walks good words l j Q
  walks-turns k j P Q f h t next = λ m g len ex.
      let p = h m g len (t.explains m ex) in
      (p.0, subst (Q (overlay m l.writes)) (sym (t.left m)) (next (overlay m l.writes) (overlay m k.writes) p.1))

  pub walks-does : {A : Type 0} (k j : Log) (good' : List ℕ → Type 0) (words' : ℕ) (P Q : List ℕ → List ℕ → Type 0)
      (effect : List ℕ → Effect A) (v : A) → Walks good words l k P → SameMemories good good' → words' ≡ words
      → DoesOver good' words' effect k v j
      → ((m x : List ℕ) → P m x → v ≡ (effect x).reply → Q m (effect x).memory) → Walks good words l j Q
  walks-does k j good' words' P Q effect v h same w does next = λ m g len ex.
      let d = does m ((same m).0 g) (len ∙ sym w) ex in
      let p = h m g len d.explained in
      (p.0, subst (Q (overlay m l.writes)) (sym d.left) (next (overlay m l.writes) (overlay m k.writes) p.1 d.replied))

  pub walked : (k : Log) (good' : List ℕ → Type 0) (words' : ℕ) (P : List ℕ → List ℕ → Type 0) (Q : Type 0) → Walks good words l k P → SameMemories good good' → words' ≡ words → IsExplained good' words' k
      → ((m x : List ℕ) → P m x → Q) → Q
  walked k good' words' P Q h same w seen next = next (overlay seen.0 l.writes) (overlay seen.0 k.writes) (h seen.0 ((same seen.0).1 seen.1) (seen.2 ∙ w) seen.3).1

  pub walks-end : {A : Type 0} (k : Log) (effect : List ℕ → Effect A) (v : A) (b : Bool) → not (is_empty k.writes) ≡ not (is_empty l.writes) || b
      → Walks good words l k (λ m x. effect m ≡ record { reply = v; memory = x; wrote = b }) → DoesOver good words effect l v k
  walks-end k effect v b ws h = λ m g len ex.
      let p = h m g len ex in
      record {
        explained = p.0;
        replied = ap (λ f. f.reply) (sym p.1);
        left = ap (λ f. f.memory) (sym p.1);
        wrote = ws ∙ ap (λ f. not (is_empty l.writes) || f.wrote) (sym p.1);
      }

pub not-or : (b : Bool) → b || true ≡ true
not-or true = refl
not-or false = refl

pub or-not : (b : Bool) → b ≡ b || false
or-not true = refl
or-not false = refl

not-true : (b : Bool) → not b ≡ true → b ≡ false
not-true true e = absurd cc
not-true false e = refl

-- a call that wrote left a log with writes
pub does-wrote : {A : Type 0} (good : List ℕ → Type 0) (words : ℕ) (k j : Log) (good' : List ℕ → Type 0) (words' : ℕ)
    (effect : List ℕ → Effect A) (v : A) → DoesOver good words effect k v j → SameMemories good good' → words' ≡ words
    → IsExplained good' words' j
    → ((m : List ℕ) → (effect m).wrote ≡ true) → is_empty j.writes ≡ false
does-wrote good words k j good' words' effect v does same w seen wrote =
    let d = does seen.0 ((same seen.0).1 seen.1) (seen.2 ∙ w) seen.3 in
    not-true (is_empty j.writes) (d.wrote ∙ (ap (λ b. not (is_empty k.writes) || b) (wrote (overlay seen.0 k.writes)) ∙ not-or (not (is_empty k.writes))))

-- and one after a write
pub does-after : {A : Type 0} (good : List ℕ → Type 0) (words : ℕ) (k j : Log) (good' : List ℕ → Type 0) (words' : ℕ)
    (effect : List ℕ → Effect A) (v : A) → DoesOver good words effect k v j → SameMemories good good' → words' ≡ words
    → IsExplained good' words' j
    → is_empty k.writes ≡ false → is_empty j.writes ≡ false
does-after good words k j good' words' effect v does same w seen wrote =
    let d = does seen.0 ((same seen.0).1 seen.1) (seen.2 ∙ w) seen.3 in
    not-true (is_empty j.writes) (d.wrote ∙ ap (λ b. not b || (effect (overlay seen.0 k.writes)).wrote) wrote)

-- THE MENDING from a link whose word is v
abbrev pub from_word : SumMap → ℕ → ℕ → ℕ → ℕ → List ℕ → List ℕ
from_word r key d zero v m = m
from_word r key d (suc n) v m = mended_by (λ j. if tag r m j == suc key then raised r d j m else mended r key d n (side_at r m key j) (raised r d j m)) m v

from-is : (r : SumMap) (key d n a : ℕ) (m : List ℕ) → mended r key d n a m ≡ from_word r key d n (slice_index m a) m
from-is r key d zero a m = refl
from-is r key d (suc n) a m = refl

-- m is the memory before, x the one now
pub record Mending (r : SumMap) (from key d v n : ℕ) (b : Bool) (m x : List ℕ) : Type 0 where
  pub on : mended r key d r.cells from m ≡ from_word r key d n v x
  pub links : LinksInside r x
  pub first : not (slice_index m from == 0) ≡ b

pub mending-begins : (r : SumMap) (from key d v : ℕ) (m : List ℕ) → v ≡ slice_index m from → LinksInside r m → Mending r from key d v r.cells (not (v == 0)) m m
mending-begins r from key d v m e w = record {
  on = from-is r key d r.cells from m ∙ ap (λ i. from_word r key d r.cells i m) (sym e);
  links = w;
  first = ap (λ i. not (i == 0)) (sym e);
}

pub mending-ends : (r : SumMap) (key d v n : ℕ) (m : List ℕ) → v ≡ 0 → from_word r key d n v m ≡ m
mending-ends r key d v zero m e = refl
mending-ends r key d v (suc n) m e = rw e refl

pub mending-stops : (r : SumMap) (key d v n : ℕ) (m : List ℕ) → n ≡ 0 → from_word r key d n v m ≡ m
mending-stops r key d v zero m e = refl
mending-stops r key d v (suc n) m e = absurd (omega arith)

raised-tag : (r : SumMap) (d j i : ℕ) (m : List ℕ) → tag r (raised r d j m) i ≡ tag r m i
raised-tag r d j i m = get_or-set_other m (sum_at r j) (tag_at r i) _ 0 (λ e. absurd (omega arith))

pub raised-links : (r : SumMap) (d j : ℕ) (m : List ℕ) → LinksInside r m → LinksInside r (raised r d j m)
raised-links r d j m w = (
  subst (λ i. i ≤ r.cells) (sym (get_or-set_other m (sum_at r j) r.at _ 0 (λ e. absurd (omega arith)))) w.0,
  λ i lt. (
    subst (λ y. y ≤ r.cells) (sym (get_or-set_other m (sum_at r j) (left_at r i) _ 0 (λ e. absurd (omega arith)))) (w.1 i lt).0,
    subst (λ y. y ≤ r.cells) (sym (get_or-set_other m (sum_at r j) (right_at r i) _ 0 (λ e. absurd (omega arith)))) (w.1 i lt).1,
  ),
)

pub mending-found : (r : SumMap) (key d v n j t : ℕ) (x : List ℕ) → v ≡ suc j → 0 < n → t ≡ tag r (raised r d j x) j → t ≡ key + 1 → from_word r key d n v x ≡ raised r d j x
mending-found r key d v zero j t x e lt z y = absurd (omega arith)
mending-found r key d v (suc n) j t x e lt z y =
    let k = raised-tag r d j j x in
    let q : (tag r x j == suc key) ≡ true = (let p : tag r x j ≡ suc key = omega arith in grind (arith, nat_tests)) in rw (e, q) refl

-- one cell on
pub mending-on : (r : SumMap) (from key d v n less j t a u : ℕ) (b : Bool) (m x : List ℕ) → Mending r from key d v n b m x → v ≡ suc j → n ≡ suc less → t ≡ tag r (raised r d j x) j → t ≢ key + 1
    → a ≡ (if ltb key t then left_at r j else right_at r j) → u ≡ slice_index (raised r d j x) a → Mending r from key d u less b m (raised r d j x)
mending-on r from key d v zero less j t a u b m x w e k z y f h = absurd (omega arith)
mending-on r from key d v (suc n) less j t a u b m x w e k z y f h =
    let same = raised-tag r d j j x in
    let q : (tag r x j == suc key) ≡ false = (let p : tag r x j ≢ suc key = λ i. y (omega arith) in grind (arith, nat_tests)) in
    let side : a ≡ side_at r x key j = f ∙ ap (λ i. if ltb key i then left_at r j else right_at r j) (z ∙ same) in
    let s : n ≡ less = omega arith in
    let step : from_word r key d (suc n) v x ≡ mended r key d n (side_at r x key j) (raised r d j x) = rw (e, q) refl in
    record {
      on =
          w.on
          ∙ (step
          ∙ (from-is r key d n (side_at r x key j) (raised r d j x)
          ∙ (ap (λ i. from_word r key d n (slice_index (raised r d j x) i) (raised r d j x)) (sym side)
          ∙ (ap (λ i. from_word r key d n i (raised r d j x)) (sym h) ∙ ap (λ i. from_word r key d i u (raised r d j x)) s))));
      links = raised-links r d j x w.links;
      first = w.first;
    }

pub side-most : (r : SumMap) (key t j a : ℕ) (x : List ℕ) → LinksInside r x → j < r.cells → a ≡ (if ltb key t then left_at r j else right_at r j) → slice_index x a ≤ r.cells
side-most r key t j a x w lt e = by (ltb key t) e
  where
    by : (b : Bool) → a ≡ (if b then left_at r j else right_at r j) → slice_index x a ≤ r.cells
    by true e = subst (λ i. slice_index x i ≤ r.cells) (sym e) (w.1 j lt).0
    by false e = subst (λ i. slice_index x i ≤ r.cells) (sym e) (w.1 j lt).1

pub word-most : (r : SumMap) (from key d v n j t a u : ℕ) (b : Bool) (m x : List ℕ) → Mending r from key d v n b m x → j < r.cells
    → a ≡ (if ltb key t then left_at r j else right_at r j) → u ≡ slice_index (raised r d j x) a → u ≤ r.cells
word-most r from key d v n j t a u b m x w lt f h = let y = side-most r key t j a (raised r d j x) (raised-links r d j x w.links) lt f in omega arith

pub mended-is : (r : SumMap) (from key d : ℕ) (b : Bool) (m x : List ℕ) → mended r key d r.cells from m ≡ x → not (slice_index m from == 0) ≡ b → mended_in r from key d m ≡ record { reply = b; memory = x; wrote = b }
mended-is r from key d b m x e f = rw (e, f) refl

-- at step i, where the link's word is v: nothing was written yet, or a sum was
abbrev pub Wrote : ℕ → Log → Log → Bool → ℕ → Type 0
Wrote i l k b v = ((i ≡ 0) × (k.writes ≡ l.writes) × (b ≡ not (v == 0))) ⊎ ((is_empty k.writes ≡ false) × (b ≡ true))

pub wrote-true : (i : ℕ) (l k : Log) (b : Bool) (v : ℕ) → Wrote i l k b v → v ≢ 0 → b ≡ true
wrote-true i l k b v (inl x) d = let q : (v == 0) ≡ false = grind (arith, nat_tests) in x.2 ∙ ap not q
wrote-true i l k b v (inr x) d = x.1

pub wrote-here : (l k : Log) (b : Bool) → is_empty k.writes ≡ false → b ≡ true → not (is_empty k.writes) ≡ not (is_empty l.writes) || b
wrote-here l k b e f = ap not e ∙ (sym (not-or (not (is_empty l.writes))) ∙ ap (λ x. not (is_empty l.writes) || x) (sym f))

pub wrote-end : (i : ℕ) (l k : Log) (b : Bool) (v : ℕ) → Wrote i l k b v → (i ≡ 0 → v ≡ 0) → not (is_empty k.writes) ≡ not (is_empty l.writes) || b
wrote-end i l k b v (inl x) z = let q : (v == 0) ≡ true = (let y = z x.0 in grind (arith, nat_tests)) in let f : b ≡ false = x.2 ∙ ap not q in
    ap (λ y. not (is_empty y)) x.1 ∙ (or-not (not (is_empty l.writes)) ∙ ap (λ y. not (is_empty l.writes) || y) (sym f))
wrote-end i l k b v (inr x) z = wrote-here l k b x.0 x.1

-- a walk that has no more to mend
pub mending-over : (good : List ℕ → Type 0) (words : ℕ) (l k : Log) (r : SumMap) (from key d v n i : ℕ) (b : Bool)
    → Walks good words l k (Mending r from key d v n b) → Wrote i l k b v → (i ≡ 0 → v ≡ 0) → ((x : List ℕ) → from_word r key d n v x ≡ x)
    → DoesOver good words (mended_in r from key d) l b k
mending-over good words l k r from key d v n i b walks wrote empty over =
    walks-end good words l k (mended_in r from key d) b b (wrote-end i l k b v wrote empty) (λ m fine len ex. let p = walks m fine len ex in (p.0, mended-is r from key d b _ _ (p.1.on ∙ over _) p.1.first))
