-- Laws of chains: the walk to a key's place, and what it finds.
use Rattle.std.proofs.Common.{ℕ, zero, suc, ◌≡◌, ◌<◌, ◌≤◌, ◌≢◌, List, Bool, true, false, refl, sym, ap, ◌∙◌, arith, subst, inl, inr}
use Rattle.std.specs.Prelude.{◌==◌, ◌&&◌, ltb, if◌then◌else◌, slice_index}
use Rattle.std.proofs.lemmas.Bool.Decides.{nat_tests}
use Rattle.data_cells.specs.declared.chains.Chains.{Chains}
use Rattle.data_effects.specs.declared.position.Position.{Position}
use Rattle.data_effects.specs.Keys.{has, how_many, less_one}
use Rattle.data_effects.proofs.KeyLaws.{how_many-more, how_many-most, how_many-none, has-yes, has-no}
use Rattle.data_cells.specs.Chains.{next_at, tag, bucket, head_of, keys, Above, LinkOf, Names, IsChains, found_by, find, position_of}

-- whether cell k is of chain b with a tag above low
abbrev pub is_above : Chains → List ℕ → ℕ → ℕ → ℕ → Bool
is_above r m b low k = ltb low (tag r m k) && (bucket r (less_one (tag r m k)) == b)

abbrev pub left : Chains → List ℕ → ℕ → ℕ → ℕ
left r m b low = how_many (is_above r m b low) r.cells

pub is-above : (r : Chains) (m : List ℕ) (b low k : ℕ) → Above r m b low k → is_above r m b low k ≡ true
is-above r m b low k h = let a = h.above in let e = h.chain in let p : ltb low (tag r m k) ≡ true = grind (arith, nat_tests) in
    let q : (bucket r (less_one (tag r m k)) == b) ≡ true = grind (arith, nat_tests) in rw (p, q) refl

above-is : (r : Chains) (m : List ℕ) (b low k : ℕ) → k < r.cells → is_above r m b low k ≡ true → Above r m b low k
above-is r m b low k lt h = by (ltb low (tag r m k)) refl (bucket r (less_one (tag r m k)) == b) refl h
  where
    by : (p : Bool) → ltb low (tag r m k) ≡ p → (q : Bool) → (bucket r (less_one (tag r m k)) == b) ≡ q → (p && q) ≡ true → Above r m b low k
    by true p true q e = record { inside = lt; above = grind (arith, nat_tests); chain = grind (arith, nat_tests) }
    by true p false q e = absurd cc
    by false p q e f = absurd cc

bool-same : (x y : Bool) → (x ≡ true → y ≡ true) → (y ≡ true → x ≡ true) → x ≡ y
bool-same true y f g = sym (f refl)
bool-same false true f g = g refl
bool-same false false f g = refl

-- after the next cell there is one cell less
pub left-step : (r : Chains) (m : List ℕ) (b low j : ℕ) → IsChains r m → Names r m b low (suc j) → left r m b low ≡ suc (left r m b (tag r m j))
left-step r m b low j w n = how_many-more (is_above r m b low) (is_above r m b (tag r m j)) j r.cells same n.0.inside (is-above r m b low j n.0) (not-itself (is_above r m b (tag r m j) j) refl)
  where
    not-itself : (x : Bool) → is_above r m b (tag r m j) j ≡ x → x ≡ false
    not-itself true e = let h = above-is r m b (tag r m j) j n.0.inside e in let a = h.above in absurd (omega arith)
    not-itself false e = refl

    same : (i : ℕ) → i < r.cells → i ≢ j → is_above r m b low i ≡ is_above r m b (tag r m j) i
    same i lt d = bool-same (is_above r m b low i) (is_above r m b (tag r m j) i)
        (λ e. let h = above-is r m b low i lt e in let le = n.1 i h in
        let ne : tag r m j ≢ tag r m i = λ z. d (sym (w.differ j i n.0.inside lt (let a = n.0.above in omega arith) z)) in
        is-above r m b (tag r m j) i (record { inside = lt; above = omega arith; chain = h.chain }))
        (λ e. let h = above-is r m b (tag r m j) i lt e in let a = h.above in let c = n.0.above in
        is-above r m b low i (record { inside = lt; above = omega arith; chain = h.chain }))

-- where a cell is above, some are left
pub left-some : (r : Chains) (m : List ℕ) (b low j : ℕ) → IsChains r m → Names r m b low (suc j) → 0 < left r m b low
left-some r m b low j w n = let e = left-step r m b low j w n in omega arith

pub left-none : (r : Chains) (m : List ℕ) (b low : ℕ) → Names r m b low 0 → left r m b low ≡ 0
left-none r m b low n = how_many-none (is_above r m b low) r.cells (λ i lt. by i lt (is_above r m b low i) refl)
  where
    by : (i : ℕ) → i < r.cells → (t : Bool) → is_above r m b low i ≡ t → t ≡ false
    by i lt true e = absurd (n i (above-is r m b low i lt e))
    by i lt false e = refl

-- the place of a key in its chain: the last link before it
pub record Found (r : Chains) (m : List ℕ) (key : ℕ) (s : Position) : Type 0 where
  pub low : ℕ
  pub link : LinkOf r m (bucket r key) low s.link
  pub under : low ≤ key
  pub word : slice_index m s.link ≡ s.next
  pub none : s.next ≡ 0 → s.tag ≡ 0
  pub some : (j : ℕ) → s.next ≡ suc j → (s.tag ≡ tag r m j) × (key < tag r m j)

find-found : (r : Chains) (m : List ℕ) (key n low a : ℕ) → IsChains r m → LinkOf r m (bucket r key) low a → low ≤ key → left r m (bucket r key) low ≤ n → Found r m key (find r m key n a)
find-found r m key zero low a w l under le = by (slice_index m a) refl (w.names (bucket r key) low a l)
  where
    by : (v : ℕ) → slice_index m a ≡ v → Names r m (bucket r key) low v → Found r m key (record { link = a; next = 0; tag = 0 })
    by zero e h = record { low = low; link = l; under = under; word = e; none = λ z. refl; some = λ j z. absurd cc }
    by (suc j) e h = let x = left-some r m (bucket r key) low j w h in absurd (omega arith)
find-found r m key (suc n) low a w l under le = by (slice_index m a) refl (w.names (bucket r key) low a l)
    (λ j h small. find-found r m key n (tag r m j) (next_at r j) w (inr (j, refl, refl, record { inside = h.0.inside; above = (let a = h.0.above in omega arith); chain = h.0.chain })) small
    (let e = left-step r m (bucket r key) low j w h in omega arith))
  where
    by : (v : ℕ) → slice_index m a ≡ v → Names r m (bucket r key) low v → ((j : ℕ) → Names r m (bucket r key) low (suc j) → tag r m j ≤ key → Found r m key (find r m key n (next_at r j)))
        → Found r m key (found_by r m key a (λ j. find r m key n (next_at r j)) v)
    by zero e h go = record { low = low; link = l; under = under; word = e; none = λ z. refl; some = λ j z. absurd cc }
    by (suc j) e h go = here (ltb key (tag r m j)) refl
      where
        here : (t : Bool) → ltb key (tag r m j) ≡ t → Found r m key (if t then record { link = a; next = suc j; tag = tag r m j } else find r m key n (next_at r j))
        here true q = record {
          low = low;
          link = l;
          under = under;
          word = e;
          none = λ z. absurd (omega arith);
          some = λ i z. let s : j ≡ i = omega arith in (ap (tag r m) s, subst (λ x. key < tag r m x) s (grind (arith, nat_tests)));
        }
        here false q = go j h (grind (arith, nat_tests))

pub position-found : (r : Chains) (m : List ℕ) (key : ℕ) → IsChains r m → bucket r key < r.heads → Found r m key (position_of r m key)
position-found r m key w lt = find-found r m key r.cells 0 (head_of r key) w (inl (refl, lt, refl)) (omega arith) (how_many-most _ r.cells)

-- a key that is there is at its position
pub has-found : (r : Chains) (m : List ℕ) (key : ℕ) (s : Position) → IsChains r m → Found r m key s → (s.tag == suc key) ≡ has key (keys r m)
has-found r m key s w f = by s.next refl (subst (Names r m (bucket r key) f.low) f.word (w.names (bucket r key) f.low s.link f.link))
  where
    cell : (i : ℕ) → i < r.cells → tag r m i ≡ suc key → Above r m (bucket r key) f.low i
    cell i lt e = record { inside = lt; above = (let u = f.under in omega arith); chain = ap (λ t. bucket r (less_one t)) e }

    by : (v : ℕ) → s.next ≡ v → Names r m (bucket r key) f.low v → (s.tag == suc key) ≡ has key (keys r m)
    by zero e h = let z = f.none e in let q : (s.tag == suc key) ≡ false = grind (arith, nat_tests) in q ∙ sym (has-no (tag r m) key r.cells (λ i lt t. h i (cell i lt t)))
    by (suc j) e h = here (tag r m j == suc key) refl
      where
        at : s.tag ≡ tag r m j
        at = (f.some j e).0

        here : (t : Bool) → (tag r m j == suc key) ≡ t → (s.tag == suc key) ≡ has key (keys r m)
        here true q = let x : tag r m j ≡ suc key = grind (arith, nat_tests) in let y = has-yes (tag r m) key r.cells j h.0.inside x in rw at (q ∙ sym y)
        here false q = let x : tag r m j ≢ suc key = grind (arith, nat_tests) in
            let y = has-no (tag r m) key r.cells (λ i lt t. let le = h.1 i (cell i lt t) in let g = (f.some j e).1 in x (omega arith)) in rw at (q ∙ sym y)

-- a link of the chains names a cell of the pool, or none
pub link-inside : (r : Chains) (m : List ℕ) (b low a : ℕ) → IsChains r m → LinkOf r m b low a → slice_index m a ≤ r.cells
link-inside r m b low a w l = by (slice_index m a) (w.names b low a l)
  where
    by : (v : ℕ) → Names r m b low v → v ≤ r.cells
    by zero h = omega arith
    by (suc j) h = let lt = h.0.inside in omega arith

pub next-inside : (r : Chains) (m : List ℕ) (i : ℕ) → IsChains r m → i < r.cells → slice_index m (next_at r i) ≤ r.cells
next-inside r m i w lt = by (tag r m i) refl
  where
    by : (t : ℕ) → tag r m i ≡ t → slice_index m (next_at r i) ≤ r.cells
    by zero e = let z = w.spare i lt e in omega arith
    by (suc k) e = link-inside r m (bucket r (less_one (tag r m i))) (tag r m i) (next_at r i) w (inr (i, refl, refl, record { inside = lt; above = omega arith; chain = refl }))

-- the walk, a step at a time
pub find-end : (r : Chains) (m : List ℕ) (key n a v : ℕ) → v ≡ slice_index m a → v ≡ 0 → record { link = a; next = v; tag = 0 } ≡ find r m key n a
find-end r m key zero a v e z = rw z refl
find-end r m key (suc n) a v e z = let q : slice_index m a ≡ 0 = sym e ∙ z in rw (z, q) refl

pub find-stop : (r : Chains) (m : List ℕ) (key n a v j t : ℕ) → 0 < n → v ≡ slice_index m a → v ≡ suc j → t ≡ tag r m j → key < t → record { link = a; next = v; tag = t } ≡ find r m key n a
find-stop r m key zero a v j t lt e z s g = absurd (omega arith)
find-stop r m key (suc n) a v j t lt e z s g = let q : slice_index m a ≡ suc j = sym e ∙ z in let p : ltb key (tag r m j) ≡ true = grind (arith, nat_tests) in rw (z, q, s, p) refl

pub find-on : (r : Chains) (m : List ℕ) (key n less a v j t : ℕ) → n ≡ suc less → v ≡ slice_index m a → v ≡ suc j → t ≡ tag r m j → t ≤ key → find r m key n a ≡ find r m key less (next_at r j)
find-on r m key zero less a v j t k e z s g = absurd (omega arith)
find-on r m key (suc n) less a v j t k e z s g = let q : slice_index m a ≡ suc j = sym e ∙ z in let p : ltb key (tag r m j) ≡ false = grind (arith, nat_tests) in let d : n ≡ less = omega arith in rw (q, p, d) refl

-- how far the walk to a key has come: to the link a, which names v, with n cells to go at most
pub record Walked (r : Chains) (key a v n : ℕ) (m : List ℕ) : Type 0 where
  pub well : IsChains r m
  pub on : position_of r m key ≡ find r m key n a
  pub at : v ≡ slice_index m a
