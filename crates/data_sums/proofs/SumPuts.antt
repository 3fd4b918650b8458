-- A put keeps a map well formed.
use Rattle.std.proofs.Common.{ℕ, zero, suc, ◌≡◌, ◌<◌, ◌≤◌, ◌≢◌, ◌+◌, ◌*◌, ◌%◌, ◌^◌, List, length, get_or, set, Bool, true, false, refl, sym, ap, ◌∙◌, arith, subst, inl, inr}
use Rattle.std.specs.Prelude.{◌==◌, Option, Some, None, slice_index}
use Rattle.std.proofs.Math.ListN.{length-set}
use Rattle.std.proofs.lemmas.List.{get_or-set_same, get_or-set_other}
use Rattle.std.proofs.lemmas.Bool.Decides.{nat_tests}
use Rattle.data_effects.specs.declared.position.Position.{Position}
use Rattle.data_effects.specs.Effects.{Effect, changed, unchanged}
use Rattle.data_effects.specs.Keys.{free_from}
use Rattle.data_effects.proofs.KeyLaws.{how_many-most, free-is}
use Rattle.data_tree.specs.Shapes.{Ranges, Within, LinkOf, Names, top}
use Rattle.data_tree.proofs.ShapeWalks.{Found, position-found, word-inside, cell-inside}
use Rattle.data_tree.proofs.ShapeOrder.{over, link-inside, link-used}
use Rattle.data_tree.proofs.ShapeInserts.{attach-keeps, with_range}
use Rattle.data_sums.specs.declared.sum_map.SumMap.{SumMap}
use Rattle.data_sums.specs.declared.sum_map.MapPut.{MapPut}
use Rattle.data_sums.specs.declared.sum_map.MapPut.TheVariants.{Added, Replaced, NoRoom}
use Rattle.data_sums.specs.Sums.{pool, tag_at, left_at, right_at, value_at, sum_at, tag, value, Used, Holds, IsSumMap, LinksInside, HasKey, sum_within, position_of, mended, attached, step_to, put_in, put_by, added_by, replaced_in, got_in}
use Rattle.data_sums.proofs.SumTrees.{Tree, tree-of, same-tree, part, part-in, part-out, within-set, within-none, mod-grows, mod-changes}
use Rattle.data_sums.proofs.SumPairs.{value-none, value-some}
use Rattle.data_sums.proofs.SumMends.{Broken, mended-holds}

pub tree-links : (r : SumMap) (m : List ℕ) (g : Ranges) → Tree r m g → LinksInside r m
tree-links r m g w = (word-inside (pool r) m g 0 top r.at w.shape (inl (refl, refl, refl)), λ i lt. cell-inside (pool r) m g i w.shape lt)

pub link-off : (r : SumMap) (m : List ℕ) (g : Ranges) (l h a : ℕ) → LinkOf (pool r) m g l h a → (j : ℕ) → (a ≢ value_at r j) × (a ≢ sum_at r j)
link-off r m g l h a (inl x) j = let p = x.0 in ((λ e. absurd (omega arith)), (λ e. absurd (omega arith)))
link-off r m g l h a (inr (inl (i, p, q, o, u))) j = ((λ e. absurd (omega arith)), (λ e. absurd (omega arith)))
link-off r m g l h a (inr (inr (i, p, q, o, u))) j = ((λ e. absurd (omega arith)), (λ e. absurd (omega arith)))

-- ANOTHER VALUE in the cell j of the key
module _ (r : SumMap) (m : List ℕ) (g : Ranges) (key v j : ℕ) (w : Holds r m g) (small : key < 2 ^ 32) (inside : j < r.cells)
    (at : tag r m j ≡ suc key) (fits : value r m j < 2 ^ 64) (room : r.at + 1 + 5 * r.cells ≤ length m) where
  abbrev k : List ℕ
  k = set m (value_at r j) v

  k-other : (x : ℕ) → x ≢ value_at r j → get_or k x 0 ≡ get_or m x 0
  k-other x e = get_or-set_other m (value_at r j) x v 0 e

  k-tags : (i : ℕ) → tag r k i ≡ tag r m i
  k-tags i = k-other (tag_at r i) (λ e. absurd (omega arith))

  k-sums : (i : ℕ) → slice_index k (sum_at r i) ≡ slice_index m (sum_at r i)
  k-sums i = k-other (sum_at r i) (λ e. absurd (omega arith))

  k-values : (i : ℕ) → i ≢ j → value r k i ≡ value r m i
  k-values i d = k-other (value_at r i) (λ e. d (omega arith))

  k-new : value r k j ≡ v
  k-new = get_or-set_same m (value_at r j) v 0 (omega arith)

  pub value-tree : Tree r (set m (value_at r j) v) g
  value-tree = same-tree r m k g (tree-of r m g w) (k-other r.at (λ e. absurd (omega arith))) k-tags (λ i. k-other (left_at r i) (λ e. absurd (omega arith))) (λ i. k-other (right_at r i) (λ e. absurd (omega arith)))
      (λ i lt z. let s = w.bare i lt z in (k-values i (λ q. (let t : tag r m i ≡ tag r m j = ap (tag r m) q in absurd (omega arith))) ∙ s.0, k-sums i ∙ s.1))

  old : (i : ℕ) → Used r k i → Used r m i
  old i u = record { inside = u.inside; pos = subst (λ z. 0 < z) (k-tags i) u.pos }

  parts : (l h : ℕ) → sum_within r k l h r.cells + part r m l h j ≡ sum_within r m l h r.cells + part r k l h j
  parts l h = within-set r m k l h j r.cells inside (λ i d. (k-tags i, k-values i d))

  value-broken : Broken r k g (suc key) (step_to (value r m j) v) 0 top
  value-broken = record {
    broken = λ i u p q x y.
        let a = part-in r m (g.low i) (g.high i) j (omega arith) (omega arith) in
        let t = k-tags j in
        let b = part-in r k (g.low i) (g.high i) j (omega arith) (omega arith) in
        let c = k-new in
        let z = parts (g.low i) (g.high i) in
        mod-changes (2 ^ 64) (slice_index k (sum_at r i)) (sum_within r m (g.low i) (g.high i) r.cells)
        (sum_within r k (g.low i) (g.high i) r.cells) (value r m j) v (k-sums i ∙ w.sums i (old i u)) (omega arith) (omega arith);
    right = λ i u out.
        let s = w.shape.small i u.inside in
        let t = k-tags i in
        let tj = k-tags j in
        let no' : g.low i < suc key → suc key < g.high i → ⊥ = λ p q. out p q u.pos (omega arith) in
        let a = part-out r m (g.low i) (g.high i) j (λ p q. no' (omega arith) (omega arith)) in
        let b = part-out r k (g.low i) (g.high i) j (λ p q. no' (omega arith) (omega arith)) in
        let z = parts (g.low i) (g.high i) in
        let e : sum_within r k (g.low i) (g.high i) r.cells ≡ sum_within r m (g.low i) (g.high i) r.cells = omega arith in
        k-sums i ∙ (w.sums i (old i u) ∙ ap (λ x. x % 2 ^ 64) (sym e));
  }

  pub value-holds : Holds r (mended r key (step_to (value r m j) v) r.cells r.at (set m (value_at r j) v)) g
  value-holds = let kl : length k ≡ length m = simp length-set in
      mended-holds r g key (step_to (value r m j) v) r.cells 0 top r.at k value-tree (inl (refl, refl, refl)) (omega arith) (omega arith) (how_many-most _ r.cells) (omega arith) value-broken

-- A LEAF WITH A VALUE in the free cell c
module _ (r : SumMap) (m : List ℕ) (g : Ranges) (key v c : ℕ) (s : Position) (w : Holds r m g) (f : Found (pool r) m g key s)
    (small : key < 2 ^ 32) (empty : s.next ≡ 0) (inside : c < r.cells) (free : tag r m c ≡ 0)
    (room : r.at + 1 + 5 * r.cells ≤ length m) where
  abbrev leaf : List ℕ
  leaf = attached r key v c s.link m

  tree : Tree r m g
  tree = tree-of r m g w

  abbrev n : Ranges
  n = with_range g c f.low f.high (over (pool r) m g f.low f.high s.link f.link)

  gap : (i : ℕ) → Within (pool r) m f.low f.high i → ⊥
  gap = subst (Names (pool r) m g f.low f.high) (f.word ∙ empty) (w.shape.names f.low f.high s.link f.link)

  absent : (i : ℕ) → i < r.cells → tag r m i ≢ suc key
  absent i lt e = gap i (record { inside = lt; above = (let a = f.above in omega arith); below = (let b = f.below in omega arith) })

  l-in : ((j : ℕ) → s.link ≢ tag_at r j) × (s.link < r.at + 1 + 5 * r.cells)
  l-in = link-inside (pool r) m g f.low f.high s.link f.link

  other : (x : ℕ) → x ≢ s.link → x ≢ tag_at r c → x ≢ value_at r c → get_or leaf x 0 ≡ get_or m x 0
  other x p q o =
      get_or-set_other (set (set m (tag_at r c) (suc key)) (value_at r c) v) s.link x (suc c) 0 p
      ∙ (get_or-set_other (set m (tag_at r c) (suc key)) (value_at r c) x v 0 o ∙ get_or-set_other m (tag_at r c) x (suc key) 0 q)

  pub a-tags : (i : ℕ) → i ≢ c → tag r leaf i ≡ tag r m i
  a-tags i d = other (tag_at r i) (λ e. l-in.0 i (sym e)) (λ e. d (omega arith)) (λ e. absurd (omega arith))

  pub a-values : (i : ℕ) → i ≢ c → value r leaf i ≡ value r m i
  a-values i d = other (value_at r i) (λ e. (link-off r m g f.low f.high s.link f.link i).0 (sym e)) (λ e. absurd (omega arith)) (λ e. d (omega arith))

  a-sums : (i : ℕ) → slice_index leaf (sum_at r i) ≡ slice_index m (sum_at r i)
  a-sums i = other (sum_at r i) (λ e. (link-off r m g f.low f.high s.link f.link i).1 (sym e)) (λ e. absurd (omega arith)) (λ e. absurd (omega arith))

  pub a-tag : tag r leaf c ≡ suc key
  a-tag =
      get_or-set_other (set (set m (tag_at r c) (suc key)) (value_at r c) v) s.link (tag_at r c) (suc c) 0 (λ e. l-in.0 c (sym e))
      ∙ (get_or-set_other (set m (tag_at r c) (suc key)) (value_at r c) (tag_at r c) v 0 (λ e. absurd (omega arith))
      ∙ get_or-set_same m (tag_at r c) (suc key) 0 (omega arith))

  pub a-value : value r leaf c ≡ v
  a-value =
      get_or-set_other (set (set m (tag_at r c) (suc key)) (value_at r c) v) s.link (value_at r c) (suc c) 0 (λ e.
      (link-off r m g f.low f.high s.link f.link c).0 (sym e))
      ∙ get_or-set_same (set m (tag_at r c) (suc key)) (value_at r c) v 0 (simp length-set (omega arith))

  range-old : (i : ℕ) → i ≢ c → (n.low i ≡ g.low i) × (n.high i ≡ g.high i) × (n.rank i ≡ g.rank i)
  range-old i d = let q : (i == c) ≡ false = grind (arith, nat_tests) in (rw q refl, rw q refl, rw q refl)

  range-new : (n.low c ≡ f.low) × (n.high c ≡ f.high) × (n.rank c ≡ over (pool r) m g f.low f.high s.link f.link)
  range-new = let q : (c == c) ≡ true = grind (arith, nat_tests) in (rw q refl, rw q refl, rw q refl)

  pub leaf-tree : Tree r (attached r key v c s.link m) (with_range g c f.low f.high (over (pool r) m g f.low f.high s.link f.link))
  leaf-tree = record {
    shape = attach-keeps (pool r) m leaf g n key c s tree.shape f empty inside free absent a-tags a-tag
        (λ lo hi x y d. other x d ((link-inside (pool r) m g lo hi x y).0 c) ((link-off r m g lo hi x y c).0))
        (let al = l-in.1 in get_or-set_same (set (set m (tag_at r c) (suc key)) (value_at r c) v) s.link (suc c) 0 (simp length-set (omega arith)))
        (λ i lt z. let u = link-used (pool r) m g f.low f.high s.link i f.link z in let y = w.shape.spare i lt z in
        (other (left_at r i) (λ e. u.0 (sym e)) (λ e. absurd (omega arith)) (λ e. absurd (omega arith)) ∙ y.0, other (right_at r i) (λ e. u.1 (sym e)) (λ e. absurd (omega arith)) (λ e. absurd (omega arith)) ∙ y.1))
        range-old range-new;
    bare =
        λ i lt z.
        let d : i ≢ c = λ e. (let t : tag r leaf i ≡ tag r leaf c = ap (tag r leaf) e in let a = a-tag in absurd (omega arith)) in
        let y = w.bare i lt (sym (a-tags i d) ∙ z) in (a-values i d ∙ y.0, a-sums i ∙ y.1);
  }

  -- each sum is that of its range before
  before : (i : ℕ) → Used r leaf i → slice_index leaf (sum_at r i) ≡ sum_within r m (n.low i) (n.high i) r.cells % 2 ^ 64
  before i u = by (i == c) refl
    where
      by : (t : Bool) → (i == c) ≡ t → slice_index leaf (sum_at r i) ≡ sum_within r m (n.low i) (n.high i) r.cells % 2 ^ 64
      by true e =
          let q : i ≡ c = grind (arith, nat_tests) in
          let lo : n.low i ≡ f.low = ap n.low q ∙ range-new.0 in
          let hi : n.high i ≡ f.high = ap n.high q ∙ range-new.1 in
          let z : sum_within r m f.low f.high r.cells ≡ 0 = within-none r m f.low f.high r.cells (λ i lt a b. gap i (record { inside = lt; above = a; below = b })) in
          a-sums i
          ∙ (ap (λ x. slice_index m (sum_at r x)) q
          ∙ ((w.bare c inside free).1
          ∙ sym (ap (λ x. sum_within r m x (n.high i) r.cells % 2 ^ 64) lo
          ∙ (ap (λ x. sum_within r m f.low x r.cells % 2 ^ 64) hi ∙ ap (λ x. x % 2 ^ 64) z))))
      by false e =
          let q : i ≢ c = grind (arith, nat_tests) in
          let o = range-old i q in
          let t = a-tags i q in
          a-sums i
          ∙ (w.sums i (record { inside = u.inside; pos = subst (λ z. 0 < z) t u.pos })
          ∙ sym (ap (λ x. sum_within r m x (n.high i) r.cells % 2 ^ 64) o.0 ∙ ap (λ x. sum_within r m (g.low i) x r.cells % 2 ^ 64) o.1))

  leaf-parts : (l h : ℕ) → sum_within r leaf l h r.cells ≡ sum_within r m l h r.cells + part r leaf l h c
  leaf-parts l h = let z = within-set r m leaf l h c r.cells inside (λ i d. (a-tags i d, a-values i d)) in let p = part-out r m l h c (λ a b. absurd (omega arith)) in omega arith

  leaf-broken : Broken r leaf n (suc key) v 0 top
  leaf-broken = record {
    broken = λ i u p q x y.
        let t = a-tag in
        let b = part-in r leaf (n.low i) (n.high i) c (subst (λ z. n.low i < z) (sym t) p) (subst (λ z. z < n.high i) (sym t) q) in
        mod-grows (2 ^ 64) (slice_index leaf (sum_at r i)) (sum_within r m (n.low i) (n.high i) r.cells)
        (sum_within r leaf (n.low i) (n.high i) r.cells) v (before i u)
        (leaf-parts (n.low i) (n.high i) ∙ ap (λ z. sum_within r m (n.low i) (n.high i) r.cells + z) (b ∙ a-value));
    right = λ i u out.
        let s = leaf-tree.shape.small i u.inside in
        let b = part-out r leaf (n.low i) (n.high i) c (λ p q. out (subst (λ z. n.low i < z) a-tag p) (subst (λ z. z < n.high i) a-tag q) u.pos s) in
        let z = leaf-parts (n.low i) (n.high i) in
        let e : sum_within r leaf (n.low i) (n.high i) r.cells ≡ sum_within r m (n.low i) (n.high i) r.cells = omega arith in
        before i u ∙ ap (λ x. x % 2 ^ 64) (sym e);
  }

  pub leaf-holds : Holds r (mended r key v r.cells r.at (attached r key v c s.link m)) (with_range g c f.low f.high (over (pool r) m g f.low f.high s.link f.link))
  leaf-holds = let kl : length leaf ≡ length m = simp length-set in
      mended-holds r n key v r.cells 0 top r.at leaf leaf-tree (inl (refl, refl, refl)) (omega arith) (omega arith) (how_many-most _ r.cells) (omega arith) leaf-broken

-- THE STATES OF A PUT: m is the memory before it, x the one before the mending
pub record Replacing (r : SumMap) (words key v j old : ℕ) (m x : List ℕ) : Type 0 where
  pub well : IsSumMap r m
  pub long : length m ≡ words
  pub at : tag r m j ≡ suc key
  pub held : old ≡ value r m j
  pub now : x ≡ set m (value_at r j) v

pub record Adding (r : SumMap) (words key v : ℕ) (s : Position) (c : ℕ) (m x : List ℕ) : Type 0 where
  pub well : IsSumMap r m
  pub long : length m ≡ words
  pub place : s ≡ position_of r m key
  pub free : Some c ≡ free_from (tag r m) 0 r.cells
  pub now : x ≡ attached r key v c s.link m

module _ (r : SumMap) (words key v j old : ℕ) (m x : List ℕ) (w : Replacing r words key v j old m x) (small : key < 2 ^ 32) (room : r.at + 1 + 5 * r.cells ≤ words) (inside : j < r.cells) (fits : old < 2 ^ 64) where
  was : value r m j < 2 ^ 64
  was = subst (λ z. z < 2 ^ 64) w.held fits

  pub replaced-links : LinksInside r x
  replaced-links = subst (LinksInside r) (sym w.now) (tree-links r (set m (value_at r j) v) w.well.0 (value-tree r m w.well.0 key v j w.well.1 small inside w.at was (let e = w.long in omega arith)))

  pub replaced-is : (replaced_in r key v j m ≡ changed Replaced (mended r key (step_to old v) r.cells r.at x)) × IsSumMap r (mended r key (step_to old v) r.cells r.at x)
  replaced-is =
      let o = w.held in
      let e = w.now in
      (rw (o, e) refl, (w.well.0, rw (o, e) (value-holds r m w.well.0 key v j w.well.1 small inside w.at was (let e = w.long in omega arith))))

-- the cell that a find names has the key
pub has-key : (r : SumMap) (m : List ℕ) (key j : ℕ) (s : Position) → IsSumMap r m → key < 2 ^ 32 → s ≡ position_of r m key → s.next ≡ suc j → HasKey r key j m
has-key r m key j s w small e n = record { well = w; at = ((position-found (pool r) m w.0 key w.1.shape small).some j (ap (λ p. p.next) (sym e) ∙ n)).1 }

module _ (r : SumMap) (words key v : ℕ) (s : Position) (c : ℕ) (m x : List ℕ) (w : Adding r words key v s c m x) (small : key < 2 ^ 32) (room : r.at + 1 + 5 * r.cells ≤ words) (next : s.next ≡ 0) where
  is-free : (c < 0 + r.cells) × (tag r m c ≡ 0)
  is-free = free-is (tag r m) 0 r.cells c (sym w.free)

  place : Found (pool r) m w.well.0 key s
  place = subst (Found (pool r) m w.well.0 key) (sym w.place) (position-found (pool r) m w.well.0 key w.well.1.shape small)

  abbrev ranges : Ranges
  ranges = with_range w.well.0 c place.low place.high (over (pool r) m w.well.0 place.low place.high s.link place.link)

  pub added-links : LinksInside r x
  added-links =
      subst (LinksInside r) (sym w.now) (tree-links r (attached r key v c s.link m) ranges
      (leaf-tree r m w.well.0 key v c s w.well.1 place small next (let z = is-free.0 in omega arith) is-free.1
      (let e = w.long in omega arith)))

  pub added-is : (put_in r key v m ≡ changed Added (mended r key v r.cells r.at x)) × IsSumMap r (mended r key v r.cells r.at x)
  added-is =
      let n : (position_of r m key).next ≡ 0 = ap (λ p. p.next) (sym w.place) ∙ next in
      let o : (position_of r m key).link ≡ s.link = ap (λ p. p.link) (sym w.place) in
      let q = sym w.free in
      let e = w.now in (
        rw (n, q, o, e) refl,
        (
          ranges,
          subst (λ i. Holds r (mended r key v r.cells r.at i) ranges) (sym e) (leaf-holds r m w.well.0 key v c s w.well.1 place small next
              (let z = is-free.0 in omega arith) is-free.1 (let e = w.long in omega arith)),
        ),
      )

pub full-is : (r : SumMap) (key v : ℕ) (s : Position) (m : List ℕ) → s ≡ position_of r m key → s.next ≡ 0 → None ≡ free_from (tag r m) 0 r.cells → put_in r key v m ≡ unchanged NoRoom m
full-is r key v s m e n f = let q : (position_of r m key).next ≡ 0 = ap (λ p. p.next) (sym e) ∙ n in let o = sym f in rw (q, o) refl

abbrev put_by_free : SumMap → ℕ → ℕ → List ℕ → ℕ → Option ℕ → Effect MapPut
put_by_free r key v m zero o = added_by r key v m o
put_by_free r key v m (suc j) o = replaced_in r key v j m

put-by-free : (r : SumMap) (key v : ℕ) (m : List ℕ) (n : ℕ) → IsSumMap r (put_by_free r key v m n (free_from (tag r m) 0 r.cells)).memory → IsSumMap r (put_by r key v m n).memory
put-by-free r key v m zero h = h
put-by-free r key v m (suc j) h = h

-- where each value is a word, a put keeps the map well formed
pub put-keeps : (r : SumMap) (m : List ℕ) (key v : ℕ) → IsSumMap r m → ((i : ℕ) → i < r.cells → value r m i < 2 ^ 64) → key < 2 ^ 32 → r.at + 1 + 5 * r.cells ≤ length m → IsSumMap r (put_in r key v m).memory
put-keeps r m key v w fits small room = put-by-free r key v m (position_of r m key).next (by (position_of r m key).next refl (free_from (tag r m) 0 r.cells) refl)
  where
    f : Found (pool r) m w.0 key (position_of r m key)
    f = position-found (pool r) m w.0 key w.1.shape small

    by : (n : ℕ) → (position_of r m key).next ≡ n → (o : Option ℕ) → free_from (tag r m) 0 r.cells ≡ o → IsSumMap r (put_by_free r key v m n o).memory
    by zero e None q = w
    by zero e (Some c) q =
        let z = free-is (tag r m) 0 r.cells c q in
        (with_range w.0 c f.low f.high (over (pool r) m w.0 f.low f.high (position_of r m key).link f.link), leaf-holds r m w.0 key v c (position_of r m key) w.1 f small e (let y = z.0 in omega arith) z.1 room)
    by (suc j) e o q =
        let z : Names (pool r) m w.0 f.low f.high (suc j) = subst (Names (pool r) m w.0 f.low f.high) (f.word ∙ e) (w.1.shape.names f.low f.high (position_of r m key).link f.link) in
        (w.0, value-holds r m w.0 key v j w.1 small z.0.inside (f.some j e).1 (fits j z.0.inside) room)

-- WHAT A GET ANSWERS: the value in the cell of the key, where there is one
pub got-none : (r : SumMap) (m : List ℕ) (key : ℕ) (s : Position) → IsSumMap r m → key < 2 ^ 32 → s ≡ position_of r m key → s.next ≡ 0 → got_in r key m ≡ unchanged None m
got-none r m key s w small e n =
    let p = position-found (pool r) m w.0 key w.1.shape small in
    let z : Names (pool r) m w.0 p.low p.high 0 = subst (Names (pool r) m w.0 p.low p.high) (p.word ∙ (ap (λ x. x.next) (sym e) ∙ n)) (w.1.shape.names p.low p.high (position_of r m key).link p.link) in
    let q = value-none r m key r.cells (λ i lt t. z i (record { inside = lt; above = (let a = p.above in omega arith); below = (let b = p.below in omega arith) })) in
    rw q refl

pub got-some : (r : SumMap) (m : List ℕ) (key j : ℕ) (s : Position) → IsSumMap r m → key < 2 ^ 32 → s ≡ position_of r m key → s.next ≡ suc j → got_in r key m ≡ unchanged (Some (value r m j)) m
got-some r m key j s w small e n =
    let p = position-found (pool r) m w.0 key w.1.shape small in
    let k : (position_of r m key).next ≡ suc j = ap (λ x. x.next) (sym e) ∙ n in
    let z : Names (pool r) m w.0 p.low p.high (suc j) = subst (Names (pool r) m w.0 p.low p.high) (p.word ∙ k) (w.1.shape.names p.low p.high (position_of r m key).link p.link) in
    let t = (p.some j k).1 in
    let q = value-some r m key j r.cells z.0.inside t (λ i lt d x. d (w.1.shape.differ i j (record { inside = lt; pos = omega arith }) (record { inside = z.0.inside; pos = omega arith }) (x ∙ sym t))) in
    rw q refl
