-- The walk to a key's place in a tree, and what it finds.
use Rattle.std.proofs.Common.{ℕ, zero, suc, ◌≡◌, ◌<◌, ◌≤◌, ◌≢◌, ◌+◌, ◌*◌, ◌^◌, List, Bool, true, false, refl, sym, ap, ◌∙◌, arith, subst, inl, inr}
use Rattle.std.specs.Prelude.{◌⊎◌, ◌==◌, ◌&&◌, ltb, if◌then◌else◌, slice_index}
use Rattle.std.proofs.lemmas.Bool.Decides.{nat_tests}
use Rattle.data_effects.specs.declared.position.Position.{Position}
use Rattle.data_effects.specs.Keys.{has, how_many, keys_of}
use Rattle.data_effects.proofs.KeyLaws.{how_many-fewer, how_many-most, has-yes, has-no}
use Rattle.data_tree.specs.declared.pool.Pool.{Pool}
use Rattle.data_tree.specs.Shapes.{width, left_at, right_at, tag, top, Ranges, Used, Within, LinkOf, Names, Holds, side_at, found_by, find, position_of}

-- whether cell k has a tag between l and h
abbrev pub is_within : Pool → List ℕ → ℕ → ℕ → ℕ → Bool
is_within r m l h k = ltb l (tag r m k) && ltb (tag r m k) h

abbrev pub left : Pool → List ℕ → ℕ → ℕ → ℕ
left r m l h = how_many (is_within r m l h) r.cells

is-within : (r : Pool) (m : List ℕ) (l h k : ℕ) → l < tag r m k → tag r m k < h → is_within r m l h k ≡ true
is-within r m l h k a b = let p : ltb l (tag r m k) ≡ true = grind (arith, nat_tests) in let q : ltb (tag r m k) h ≡ true = grind (arith, nat_tests) in rw (p, q) refl

within-is : (r : Pool) (m : List ℕ) (l h k : ℕ) → is_within r m l h k ≡ true → (l < tag r m k) × (tag r m k < h)
within-is r m l h k e = by (ltb l (tag r m k)) refl (ltb (tag r m k) h) refl e
  where
    by : (p : Bool) → ltb l (tag r m k) ≡ p → (q : Bool) → ltb (tag r m k) h ≡ q → (p && q) ≡ true → (l < tag r m k) × (tag r m k < h)
    by true p true q e = (grind (arith, nat_tests), grind (arith, nat_tests))
    by true p false q e = absurd cc
    by false p q e f = absurd cc

-- a part of a range without one of its cells has less
pub left-less : (r : Pool) (m : List ℕ) (l h x y j : ℕ) → Within r m l h j → l ≤ x → y ≤ h → (tag r m j ≤ x) ⊎ (y ≤ tag r m j) → left r m x y < left r m l h
left-less r m l h x y j w lo hi out = how_many-fewer (is_within r m x y) (is_within r m l h) j r.cells
    (λ i lt e. let z = within-is r m x y i e in let a = z.0 in let b = z.1 in is-within r m l h i (omega arith) (omega arith))
    w.inside (no (is_within r m x y j) refl out) (is-within r m l h j w.above w.below)
  where
    no : (t : Bool) → is_within r m x y j ≡ t → (tag r m j ≤ x) ⊎ (y ≤ tag r m j) → t ≡ false
    no true e (inl le) = let z = within-is r m x y j e in let a = z.0 in absurd (omega arith)
    no true e (inr le) = let z = within-is r m x y j e in let a = z.1 in absurd (omega arith)
    no false e o = refl

-- a cell that a link names is used, and its links have the parts of its range
pub named-used : (r : Pool) (m : List ℕ) (g : Ranges) (l h j : ℕ) → Names r m g l h (suc j) → Used r m j
named-used r m g l h j n = record { inside = n.0.inside; pos = (let a = n.0.above in omega arith) }

pub left-link : (r : Pool) (m : List ℕ) (g : Ranges) (l h j : ℕ) → Names r m g l h (suc j) → LinkOf r m g l (tag r m j) (left_at r j)
left-link r m g l h j n = inr (inl (j, refl, sym n.1, refl, named-used r m g l h j n))

pub right-link : (r : Pool) (m : List ℕ) (g : Ranges) (l h j : ℕ) → Names r m g l h (suc j) → LinkOf r m g (tag r m j) h (right_at r j)
right-link r m g l h j n = inr (inr (j, refl, refl, sym n.2, named-used r m g l h j n))

-- the place of a key
pub record Found (r : Pool) (m : List ℕ) (g : Ranges) (key : ℕ) (s : Position) : Type 0 where
  pub low : ℕ
  pub high : ℕ
  pub link : LinkOf r m g low high s.link
  pub above : low ≤ key
  pub below : suc key < high
  pub word : slice_index m s.link ≡ s.next
  pub none : s.next ≡ 0 → s.tag ≡ 0
  pub some : (j : ℕ) → s.next ≡ suc j → (s.tag ≡ tag r m j) × (tag r m j ≡ suc key)

find-found : (r : Pool) (m : List ℕ) (g : Ranges) (key n l h a : ℕ) → Holds r m g → LinkOf r m g l h a → l ≤ key → suc key < h → left r m l h ≤ n → Found r m g key (find r m key n a)
find-found r m g key zero l h a w k lo hi le = by (slice_index m a) refl (w.names l h a k)
  where
    by : (v : ℕ) → slice_index m a ≡ v → Names r m g l h v → Found r m g key (record { link = a; next = 0; tag = 0 })
    by zero e n = record { low = l; high = h; link = k; above = lo; below = hi; word = e; none = λ z. refl; some = λ j z. absurd cc }
    by (suc j) e n = let x = left-less r m l h l l j n.0 (omega arith) (let a = n.0.above in let b = n.0.below in omega arith) (inr (let a = n.0.above in omega arith)) in absurd (omega arith)
find-found r m g key (suc n) l h a w k lo hi le = by (slice_index m a) refl (w.names l h a k)
    (λ j z gt. find-found r m g key n l (tag r m j) (left_at r j) w (left-link r m g l h j z) lo gt
    (let x = left-less r m l h l (tag r m j) j z.0 (omega arith) (let b = z.0.below in omega arith) (inr (omega arith)) in omega arith))
    (λ j z lt. find-found r m g key n (tag r m j) h (right_at r j) w (right-link r m g l h j z) lt hi
    (let x = left-less r m l h (tag r m j) h j z.0 (let b = z.0.above in omega arith) (omega arith) (inl (omega arith)) in omega arith))
  where
    by : (v : ℕ) → slice_index m a ≡ v → Names r m g l h v
        → ((j : ℕ) → Names r m g l h (suc j) → suc key < tag r m j → Found r m g key (find r m key n (left_at r j)))
        → ((j : ℕ) → Names r m g l h (suc j) → tag r m j ≤ key → Found r m g key (find r m key n (right_at r j)))
        → Found r m g key (found_by r m key a (λ j. find r m key n (side_at r m key j)) v)
    by zero e z lefts rights = record { low = l; high = h; link = k; above = lo; below = hi; word = e; none = λ z. refl; some = λ j z. absurd cc }
    by (suc j) e z lefts rights = here (tag r m j == suc key) refl (ltb key (tag r m j)) refl
      where
        here : (t : Bool) → (tag r m j == suc key) ≡ t → (u : Bool) → ltb key (tag r m j) ≡ u
            → Found r m g key (if t then record { link = a; next = suc j; tag = tag r m j } else find r m key n (if u then left_at r j else right_at r j))
        here true q u p = record {
          low = l;
          high = h;
          link = k;
          above = lo;
          below = hi;
          word = e;
          none = λ z. absurd (omega arith);
          some = λ i z. let s : j ≡ i = omega arith in (ap (tag r m) s, subst (λ x. tag r m x ≡ suc key) s (grind (arith, nat_tests)));
        }
        here false q true p = lefts j z (let d : tag r m j ≢ suc key = grind (arith, nat_tests) in let c : key < tag r m j = grind (arith, nat_tests) in omega arith)
        here false q false p = rights j z (grind (arith, nat_tests))

pub position-found : (r : Pool) (m : List ℕ) (g : Ranges) (key : ℕ) → Holds r m g → key < 2 ^ 32 → Found r m g key (position_of r m key)
position-found r m g key w small = find-found r m g key r.cells 0 top r.at w (inl (refl, refl, refl)) (omega arith) (omega arith) (how_many-most _ r.cells)

pub has-found : (r : Pool) (m : List ℕ) (g : Ranges) (key : ℕ) (s : Position) → Holds r m g → Found r m g key s → (s.tag == suc key) ≡ has key (keys_of (tag r m) r.cells)
has-found r m g key s w f = by s.next refl (subst (Names r m g f.low f.high) f.word (w.names f.low f.high s.link f.link))
  where
    by : (v : ℕ) → s.next ≡ v → Names r m g f.low f.high v → (s.tag == suc key) ≡ has key (keys_of (tag r m) r.cells)
    by zero e n = let z = f.none e in let q : (s.tag == suc key) ≡ false = grind (arith, nat_tests) in
        q ∙ sym (has-no (tag r m) key r.cells (λ i lt t. n i (record { inside = lt; above = (let a = f.above in omega arith); below = (let b = f.below in omega arith) })))
    by (suc j) e n = let z = f.some j e in let a = z.0 in let b = z.1 in let q : (s.tag == suc key) ≡ true = grind (arith, nat_tests) in
        q ∙ sym (has-yes (tag r m) key r.cells j n.0.inside b)

-- a link names a cell of the pool, or none
pub word-inside : (r : Pool) (m : List ℕ) (g : Ranges) (l h a : ℕ) → Holds r m g → LinkOf r m g l h a → slice_index m a ≤ r.cells
word-inside r m g l h a w k = by (slice_index m a) (w.names l h a k)
  where
    by : (v : ℕ) → Names r m g l h v → v ≤ r.cells
    by zero n = omega arith
    by (suc j) n = let lt = n.0.inside in omega arith

pub cell-inside : (r : Pool) (m : List ℕ) (g : Ranges) (i : ℕ) → Holds r m g → i < r.cells → (slice_index m (left_at r i) ≤ r.cells) × (slice_index m (right_at r i) ≤ r.cells)
cell-inside r m g i w lt = by (tag r m i) refl
  where
    by : (t : ℕ) → tag r m i ≡ t → (slice_index m (left_at r i) ≤ r.cells) × (slice_index m (right_at r i) ≤ r.cells)
    by zero e = let z = w.spare i lt e in let a = z.0 in let b = z.1 in (omega arith, omega arith)
    by (suc k) e = let u : Used r m i = record { inside = lt; pos = omega arith } in
        (word-inside r m g (g.low i) (tag r m i) (left_at r i) w (inr (inl (i, refl, refl, refl, u))), word-inside r m g (tag r m i) (g.high i) (right_at r i) w (inr (inr (i, refl, refl, refl, u))))

-- the walk, a step at a time
pub find-end : (r : Pool) (m : List ℕ) (key n a v : ℕ) → v ≡ slice_index m a → v ≡ 0 → record { link = a; next = v; tag = 0 } ≡ find r m key n a
find-end r m key zero a v e z = rw z refl
find-end r m key (suc n) a v e z = let q : slice_index m a ≡ 0 = sym e ∙ z in rw (z, q) refl

pub find-stop : (r : Pool) (m : List ℕ) (key n a v j t : ℕ) → 0 < n → v ≡ slice_index m a → v ≡ suc j → t ≡ tag r m j → t ≡ key + 1 → record { link = a; next = v; tag = t } ≡ find r m key n a
find-stop r m key zero a v j t lt e z s g = absurd (omega arith)
find-stop r m key (suc n) a v j t lt e z s g = let q : slice_index m a ≡ suc j = sym e ∙ z in let p : (tag r m j == suc key) ≡ true = (let x : tag r m j ≡ suc key = omega arith in grind (arith, nat_tests)) in rw (z, q, s, p) refl

pub find-on : (r : Pool) (m : List ℕ) (key n less a v j t : ℕ) → n ≡ suc less → v ≡ slice_index m a → v ≡ suc j → t ≡ tag r m j → t ≢ key + 1 → find r m key n a ≡ find r m key less (side_at r m key j)
find-on r m key zero less a v j t k e z s g = absurd (omega arith)
find-on r m key (suc n) less a v j t k e z s g =
    let q : slice_index m a ≡ suc j = sym e ∙ z in
    let p : (tag r m j == suc key) ≡ false = (let x : tag r m j ≢ suc key = λ y. g (omega arith) in grind (arith, nat_tests)) in
    let d : n ≡ less = omega arith in rw (q, p, d) refl

-- the side that the code takes
pub side-is : (r : Pool) (m : List ℕ) (key j t d : ℕ) → t ≡ tag r m j → d ≡ (if ltb key t then left_at r j else right_at r j) → d ≡ side_at r m key j
side-is r m key j t d e h = h ∙ ap (λ x. if ltb key x then left_at r j else right_at r j) e

pub side-inside : (r : Pool) (key j t d : ℕ) → d ≡ (if ltb key t then left_at r j else right_at r j) → (r.at + 1 + width r * j < d) × (d ≤ r.at + 1 + width r * j + 2)
side-inside r key j t d h = by (ltb key t) h
  where
    by : (b : Bool) → d ≡ (if b then left_at r j else right_at r j) → (r.at + 1 + width r * j < d) × (d ≤ r.at + 1 + width r * j + 2)
    by true e = (omega arith, omega arith)
    by false e = (omega arith, omega arith)

pub side-word : (r : Pool) (m : List ℕ) (g : Ranges) (key j : ℕ) → Holds r m g → j < r.cells → slice_index m (side_at r m key j) ≤ r.cells
side-word r m g key j w lt = by (ltb key (tag r m j)) (cell-inside r m g j w lt)
  where
    by : (b : Bool) → (slice_index m (left_at r j) ≤ r.cells) × (slice_index m (right_at r j) ≤ r.cells) → slice_index m (if b then left_at r j else right_at r j) ≤ r.cells
    by true h = h.0
    by false h = h.1
