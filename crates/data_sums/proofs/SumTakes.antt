-- The least cell on a cell's right, and a removal whole.
use Rattle.std.proofs.Common.{ℕ, zero, suc, ◌≡◌, ◌<◌, ◌≤◌, ◌≢◌, ◌+◌, ◌-◌, ◌*◌, ◌%◌, ◌^◌, List, length, get_or, set, Bool, true, false, refl, sym, ap, ◌∙◌, arith, subst, inl, inr}
use Rattle.std.specs.Prelude.{◌==◌, ◌&&◌, ltb, if◌then◌else◌, slice_index}
use Rattle.std.proofs.Math.ListN.{length-set}
use Rattle.std.proofs.lemmas.List.{get_or-set_same, get_or-set_other}
use Rattle.std.proofs.lemmas.Bool.Decides.{nat_tests}
use Rattle.data_effects.specs.declared.position.Position.{Position}
use Rattle.stm_model.specs.Logs.{Log}
use Rattle.data_effects.specs.Effects.{Shows, Turns, changed, unchanged}
use Rattle.data_effects.specs.Keys.{less_one}
use Rattle.data_effects.proofs.KeyLaws.{how_many-most}
use Rattle.data_tree.specs.Shapes.{Ranges, Within, LinkOf, Names, Bounds, top}
use Rattle.data_tree.proofs.ShapeWalks.{named-used, left-link, Found, position-found}
use Rattle.data_tree.proofs.ShapeLeast.{Leftmost, leftmost-found, least-gap}
use Rattle.data_tree.proofs.ShapeSplices.{shifted}
use Rattle.data_sums.specs.declared.sum_map.SumMap.{SumMap}
use Rattle.data_sums.specs.Sums.{pool, tag_at, left_at, right_at, value_at, sum_at, tag, value, Used, Holds, IsSumMap, LinksInside, LinksFrom, HasRight, IsLink, IsEmptied, sum_within, side_at, raised, mended_by, mended, step_to, spliced, retagged, leftmost, moved_up, replaced_by, least_taken, taken_out, taken_in, replaced_in, position_of, removed_by, removed_in}
use Rattle.data_sums.proofs.SumTrees.{Tree, tree-of, same-tree, same-link, same-used-old, part, part-in, part-out, within-set, mod-changes}
use Rattle.data_sums.proofs.SumWalks.{Walks, walks-shown, walks-turns}
use Rattle.data_sums.proofs.SumPuts.{link-off, tree-links}
use Rattle.data_sums.proofs.SumMends.{Broken, nest, mended-holds}
use Rattle.data_sums.proofs.SumContents.{mended-other, mended-value}
use Rattle.data_sums.proofs.SumRemovals.{named-by, low-of, s-tags, s-tag, spliced-holds, s-values}
use Rattle.data_sums.proofs.SumRetags.{retagged-holds}

-- THE VALUE MOVED UP: the cell y, the least on the right of x, gives x its value; x had none
module _ (r : SumMap) (m : List ℕ) (g : Ranges) (x y high link key : ℕ) (w : Holds r m g) (ux : Used r m x) (none : value r m x ≡ 0) (lk : LinkOf (pool r) m g (tag r m x) high link) (named : slice_index m link ≡ suc y)
    (least : slice_index m (left_at r y) ≡ 0) (at : tag r m y ≡ suc key) (fits : value r m y < 2 ^ 64) (room : r.at + 1 + 5 * r.cells ≤ length m) where
  abbrev b : ℕ
  b = value r m y

  abbrev k1 : List ℕ
  k1 = set m (value_at r x) b

  abbrev k : List ℕ
  k = set k1 (value_at r y) 0

  tree : Tree r m g
  tree = tree-of r m g w

  names : Names (pool r) m g (tag r m x) high (suc y)
  names = subst (Names (pool r) m g (tag r m x) high) named (w.shape.names (tag r m x) high link lk)

  uy : Used r m y
  uy = record { inside = names.0.inside; pos = (let a = names.0.above in omega arith) }

  apart : x ≢ y
  apart q = let a : tag r m x ≡ tag r m y = ap (tag r m) q in let c = names.0.above in absurd (omega arith)

  k-other : (z : ℕ) → z ≢ value_at r x → z ≢ value_at r y → get_or k z 0 ≡ get_or m z 0
  k-other z p q = get_or-set_other k1 (value_at r y) z 0 0 q ∙ get_or-set_other m (value_at r x) z b 0 p

  k-tags : (i : ℕ) → tag r k i ≡ tag r m i
  k-tags i = k-other (tag_at r i) (λ e. absurd (omega arith)) (λ e. absurd (omega arith))

  k1-tags : (i : ℕ) → tag r k1 i ≡ tag r m i
  k1-tags i = get_or-set_other m (value_at r x) (tag_at r i) b 0 (λ e. absurd (omega arith))

  k-lefts : (i : ℕ) → slice_index k (left_at r i) ≡ slice_index m (left_at r i)
  k-lefts i = k-other (left_at r i) (λ e. absurd (omega arith)) (λ e. absurd (omega arith))

  k-rights : (i : ℕ) → slice_index k (right_at r i) ≡ slice_index m (right_at r i)
  k-rights i = k-other (right_at r i) (λ e. absurd (omega arith)) (λ e. absurd (omega arith))

  k-root : slice_index k r.at ≡ slice_index m r.at
  k-root = k-other r.at (λ e. absurd (omega arith)) (λ e. absurd (omega arith))

  k-sums : (i : ℕ) → slice_index k (sum_at r i) ≡ slice_index m (sum_at r i)
  k-sums i = k-other (sum_at r i) (λ e. absurd (omega arith)) (λ e. absurd (omega arith))

  k-values : (i : ℕ) → i ≢ x → i ≢ y → value r k i ≡ value r m i
  k-values i p q = k-other (value_at r i) (λ e. p (omega arith)) (λ e. q (omega arith))

  k1-values : (i : ℕ) → i ≢ x → value r k1 i ≡ value r m i
  k1-values i p = get_or-set_other m (value_at r x) (value_at r i) b 0 (λ e. p (omega arith))

  k1-x : value r k1 x ≡ b
  k1-x = get_or-set_same m (value_at r x) b 0 (let i = ux.inside in omega arith)

  k-x : value r k x ≡ b
  k-x = get_or-set_other k1 (value_at r y) (value_at r x) 0 0 (λ e. apart (omega arith)) ∙ k1-x

  k-y : value r k y ≡ 0
  k-y = get_or-set_same k1 (value_at r y) 0 0 (let i = uy.inside in simp length-set (omega arith))

  k-spares : (i : ℕ) → i < r.cells → tag r m i ≡ 0 → (value r k i ≡ 0) × (slice_index k (sum_at r i) ≡ 0)
  k-spares i lt z =
      let s = w.bare i lt z in
      let dx : i ≢ x = λ q. (let t : tag r m i ≡ tag r m x = ap (tag r m) q in let p = ux.pos in absurd (omega arith)) in
      let dy : i ≢ y = λ q. (let t : tag r m i ≡ tag r m y = ap (tag r m) q in let p = uy.pos in absurd (omega arith)) in
      (k-values i dx dy ∙ s.0, k-sums i ∙ s.1)

  pub k-tree : Tree r k g
  k-tree = same-tree r m k g tree k-root k-tags k-lefts k-rights k-spares

  k-old : (i : ℕ) → Used r k i → Used r m i
  k-old i u = same-used-old r m k g tree k-root k-tags k-lefts k-rights k-spares i u

  xr : LinkOf (pool r) m g (tag r m x) (g.high x) (right_at r x)
  xr = inr (inr (x, refl, refl, refl, ux))

  y-high : g.high y ≤ g.high x
  y-high = (low-of r m g x (g.rank y) y tree ux (omega arith) uy names.1).0

  y-less : tag r m y < g.high y
  y-less = (w.shape.highs y uy).0

  gap : (i : ℕ) → Within (pool r) m (tag r m x) (tag r m y) i → ⊥
  gap = subst (Names (pool r) m g (tag r m x) (tag r m y)) least (w.shape.names (tag r m x) (tag r m y) (left_at r y) (left-link (pool r) m g (tag r m x) high y names))

  -- of the two cells alone the values differ
  parts : (l h : ℕ) → sum_within r k l h r.cells + part r m l h y ≡ sum_within r m l h r.cells + part r k l h x
  parts l h =
      let one = within-set r m k1 l h x r.cells ux.inside (λ i d. (k1-tags i, k1-values i d)) in
      let two = within-set r k1 k l h y r.cells uy.inside (λ i d. (
        get_or-set_other k1 (value_at r y) (tag_at r i) 0 0 (λ e. absurd (omega arith)),
        get_or-set_other k1 (value_at r y) (value_at r i) 0 0 (λ e. d (omega arith)),
      )) in
      let t1 = k1-tags y in
      let v1 = k1-values y (λ q. apart (sym q)) in
      let py : part r k1 l h y ≡ part r m l h y = rw (t1, v1) refl in
      let t2 : tag r k x ≡ tag r k1 x = k-tags x ∙ sym (k1-tags x) in
      let v2 : value r k x ≡ value r k1 x = k-x ∙ sym k1-x in
      let px : part r k l h x ≡ part r k1 l h x = rw (t2, v2) refl in
      let zx : part r m l h x ≡ 0 = zeroed (ltb l (tag r m x) && ltb (tag r m x) h) (value r m x) none in
      let zy : part r k l h y ≡ 0 = zeroed (ltb l (tag r k y) && ltb (tag r k y) h) (value r k y) k-y in
      omega arith
    where
      zeroed : (c : Bool) (v : ℕ) → v ≡ 0 → (if c then v else 0) ≡ 0
      zeroed true v z = z
      zeroed false v z = refl

  -- a range from above that has y has x
  has-x : (i : ℕ) → Used r m i → g.low i < tag r m y → tag r m y < g.high i → (tag r m x < tag r m i → tag r m i < g.high x → ⊥) → (g.low i < tag r m x) × (tag r m x < g.high i)
  has-x i u lo hi out = (by (ltb (tag r m x) (tag r m i)) refl (ltb (g.low i) (tag r m x)) refl (w.shape.lows i u).1, (let c = names.0.above in omega arith))
    where
      by : (p : Bool) → ltb (tag r m x) (tag r m i) ≡ p → (q : Bool) → ltb (g.low i) (tag r m x) ≡ q → Bounds (pool r) m g 0 (g.rank i) (g.low i) → g.low i < tag r m x
      by p e true f o = grind (arith, nat_tests)
      by false e false f o = let a : tag r m i ≤ tag r m x = grind (arith, nat_tests) in let c = (w.shape.lows i u).0 in omega arith
      by true e false f (inl z) = let p = ux.pos in omega arith
      by true e false f (inr (j, uj, q, lt)) = ends (ltb (tag r m x) (tag r m j)) refl
        where
          ends : (s : Bool) → ltb (tag r m x) (tag r m j) ≡ s → g.low i < tag r m x
          ends true o = absurd (gap j (record { inside = uj.inside; above = grind (arith, nat_tests); below = omega arith }))
          ends false o =
              let a : tag r m j ≤ tag r m x = grind (arith, nat_tests) in
              let c : tag r m x ≤ g.low i = grind (arith, nat_tests) in
              let z = (low-of r m g x (g.rank i) i tree ux (omega arith) u (omega arith)).0 in
              let hi = (w.shape.highs i u).0 in
              absurd (out (grind (arith, nat_tests)) (omega arith))

  -- one that has x has y
  has-y : (i : ℕ) → Used r m i → g.low i < tag r m x → tag r m x < g.high i → (g.low i < tag r m y) × (tag r m y < g.high i)
  has-y i u lo hi =
      let z = named-by r m g i tree u in
      let o = nest r m g r.cells (g.low i) (g.high i) z.0 x tree z.1 (how_many-most _ r.cells) (record { inside = ux.inside; above = lo; below = hi }) in
      let o1 = o.1 in let a = names.0.above in let c = y-high in let d = y-less in
      (omega arith, omega arith)

  value-broken : Broken r k g (suc key) (step_to b 0) (tag r m x) (g.high x)
  value-broken = record {
    broken = λ i u p q lo hi.
        let o = k-old i u in
        let t = k-tags i in
        let z = (nest r m g r.cells (tag r m x) (g.high x) (right_at r x) i tree xr (how_many-most _ r.cells) (record { inside = u.inside; above = omega arith; below = omega arith })).0 in
        let tx = k-tags x in
        let py = part-in r m (g.low i) (g.high i) y (omega arith) (omega arith) in
        let px = part-out r k (g.low i) (g.high i) x (λ c d. absurd (omega arith)) in
        let s = parts (g.low i) (g.high i) in
        mod-changes (2 ^ 64) (slice_index k (sum_at r i)) (sum_within r m (g.low i) (g.high i) r.cells) (sum_within r k (g.low i) (g.high i) r.cells) b 0 (k-sums i ∙ w.sums i o) (omega arith) (omega arith);
    right = λ i u out.
        let o = k-old i u in
        let t = k-tags i in
        let e = same i o (λ p q lo hi. out (omega arith) (omega arith) (omega arith) (omega arith)) (ltb (g.low i) (tag r m y)) refl (ltb (tag r m y) (g.high i)) refl in
        k-sums i ∙ (w.sums i o ∙ ap (λ z. z % 2 ^ 64) (sym e));
  }
    where
      both : (i : ℕ) → (g.low i < tag r m y) → (tag r m y < g.high i) → (g.low i < tag r m x) → (tag r m x < g.high i) → sum_within r k (g.low i) (g.high i) r.cells ≡ sum_within r m (g.low i) (g.high i) r.cells
      both i a c d e =
          let tx = k-tags x in
          let vx = k-x in
          let py = part-in r m (g.low i) (g.high i) y a c in
          let px = part-in r k (g.low i) (g.high i) x (omega arith) (omega arith) in
          let s = parts (g.low i) (g.high i) in omega arith

      neither : (i : ℕ) → Used r m i → (g.low i < tag r m y → tag r m y < g.high i → ⊥) → sum_within r k (g.low i) (g.high i) r.cells ≡ sum_within r m (g.low i) (g.high i) r.cells
      neither i u out =
          let tx = k-tags x in
          let py = part-out r m (g.low i) (g.high i) y out in
          let px = part-out r k (g.low i) (g.high i) x (λ c d. (let h = has-y i u (omega arith) (omega arith) in out h.0 h.1)) in
          let s = parts (g.low i) (g.high i) in omega arith

      same : (i : ℕ) → Used r m i → (g.low i < tag r m y → tag r m y < g.high i → tag r m x < tag r m i → tag r m i < g.high x → ⊥)
          → (p : Bool) → ltb (g.low i) (tag r m y) ≡ p → (q : Bool) → ltb (tag r m y) (g.high i) ≡ q
          → sum_within r k (g.low i) (g.high i) r.cells ≡ sum_within r m (g.low i) (g.high i) r.cells
      same i u out true p true q =
          let lo : g.low i < tag r m y = grind (arith, nat_tests) in
          let hi : tag r m y < g.high i = grind (arith, nat_tests) in
          let h = has-x i u lo hi (out lo hi) in both i lo hi h.0 h.1
      same i u out true p false q = neither i u (λ a c. (let z : g.high i ≤ tag r m y = grind (arith, nat_tests) in absurd (omega arith)))
      same i u out false p q s = neither i u (λ a c. (let z : tag r m y ≤ g.low i = grind (arith, nat_tests) in absurd (omega arith)))

  pub moved-holds : Holds r (moved_up r x y key m) g
  moved-holds = let kl : length k ≡ length m = simp length-set in
      mended-holds r g key (step_to b 0) r.cells (tag r m x) (g.high x) (right_at r x) k k-tree (same-link r m k g tree k-root k-tags k-lefts k-rights k-spares (tag r m x) (g.high x) (right_at r x) xr)
      (let a = names.0.above in omega arith) (let a = y-less in let c = y-high in omega arith) (how_many-most _ r.cells) (omega arith) value-broken

-- THE WHOLE REPLACEMENT of x by the least cell on its right
pub mended-length : (r : SumMap) (key d n a : ℕ) (m : List ℕ) → length (mended r key d n a m) ≡ length m
mended-length r key d zero a m = refl
mended-length r key d (suc n) a m = by (slice_index m a) (λ j. mended-length r key d n (side_at r m key j) (raised r d j m))
  where
    one : (j : ℕ) → length (raised r d j m) ≡ length m
    one j = simp length-set

    by : (v : ℕ) → ((j : ℕ) → length (mended r key d n (side_at r m key j) (raised r d j m)) ≡ length (raised r d j m))
        → length (mended_by (λ j. if tag r m j == suc key then raised r d j m else mended r key d n (side_at r m key j) (raised r d j m)) m v) ≡ length m
    by zero go = refl
    by (suc j) go = at (tag r m j == suc key)
      where
        at : (b : Bool) → length (if b then raised r d j m else mended r key d n (side_at r m key j) (raised r d j m)) ≡ length m
        at true = one j
        at false = go j ∙ one j

pub less-one : (t : ℕ) → 0 < t → suc (less_one t) ≡ t
less-one zero lt = absurd (omega arith)
less-one (suc t) lt = refl

-- a value moved changes no tag and no link
pub moved-other : (r : SumMap) (x y key : ℕ) (m : List ℕ) (z : ℕ) → ((j : ℕ) → z ≢ sum_at r j) → ((j : ℕ) → z ≢ value_at r j) → get_or (moved_up r x y key m) z 0 ≡ get_or m z 0
moved-other r x y key m z s v = mended-other r key (step_to (value r m y) 0) r.cells (right_at r x) (set (set m (value_at r x) (value r m y)) (value_at r y) 0) z s
    ∙ (get_or-set_other (set m (value_at r x) (value r m y)) (value_at r y) z 0 0 (v y) ∙ get_or-set_other m (value_at r x) z (value r m y) 0 (v x))

pub moved-tag : (r : SumMap) (x y key : ℕ) (m : List ℕ) (i : ℕ) → tag r (moved_up r x y key m) i ≡ tag r m i
moved-tag r x y key m i = moved-other r x y key m (tag_at r i) (λ j e. absurd (omega arith)) (λ j e. absurd (omega arith))

pub moved-length : (r : SumMap) (x y key : ℕ) (m : List ℕ) → length (moved_up r x y key m) ≡ length m
moved-length r x y key m = mended-length r key (step_to (value r m y) 0) r.cells (right_at r x) (set (set m (value_at r x) (value r m y)) (value_at r y) 0) ∙ simp length-set

-- before x takes the tag of y, which s names: y's value moved up, and y spliced out
abbrev pub moved_out : SumMap → ℕ → ℕ → Position → List ℕ → List ℕ
moved_out r x y s m = spliced r y s.link (slice_index m (right_at r y)) (moved_up r x y (less_one s.tag) m)

module _ (r : SumMap) (m : List ℕ) (g : Ranges) (x y : ℕ) (s : Position) (w : Holds r m g) (u : Used r m x) (none : value r m x ≡ 0) (f : Leftmost (pool r) m g (tag r m x) (g.high x) s) (e : s.next ≡ suc y) (fits : value r m y < 2 ^ 64)
    (room : r.at + 1 + 5 * r.cells ≤ length m) where
  abbrev up : List ℕ
  up = moved_up r x y (less_one s.tag) m

  abbrev v : ℕ
  v = slice_index m (right_at r y)

  named : slice_index m s.link ≡ suc y
  named = f.word ∙ e

  pub least-names : Names (pool r) m g (tag r m x) f.high (suc y)
  least-names = subst (Names (pool r) m g (tag r m x) f.high) named (w.shape.names (tag r m x) f.high s.link f.link)

  yu : Used r m y
  yu = record { inside = least-names.0.inside; pos = (let a = least-names.0.above in omega arith) }

  tag-is : s.tag ≡ tag r m y
  tag-is = (f.some y e).0

  least : slice_index m (left_at r y) ≡ 0
  least = (f.some y e).1

  h2 : Holds r up g
  h2 = moved-holds r m g x y f.high s.link (less_one s.tag) w u none f.link named least (sym (less-one s.tag (let a = yu.pos in let b = tag-is in omega arith) ∙ tag-is)) fits room

  other : (z : ℕ) → ((j : ℕ) → z ≢ sum_at r j) → ((j : ℕ) → z ≢ value_at r j) → get_or up z 0 ≡ get_or m z 0
  other z a b = moved-other r x y (less_one s.tag) m z a b

  tags2 : (i : ℕ) → tag r up i ≡ tag r m i
  tags2 i = moved-tag r x y (less_one s.tag) m i

  lk2 : LinkOf (pool r) up g (tag r m x) f.high s.link
  lk2 = same-link r m up g (tree-of r m g w) (other r.at (λ j q. absurd (omega arith)) (λ j q. absurd (omega arith))) tags2
      (λ i. other (left_at r i) (λ j q. absurd (omega arith)) (λ j q. absurd (omega arith))) (λ i. other (right_at r i) (λ j q. absurd (omega arith)) (λ j q. absurd (omega arith)))
      (λ i lt z. h2.bare i lt (tags2 i ∙ z)) (tag r m x) f.high s.link f.link

  named2 : slice_index up s.link ≡ suc y
  named2 = other s.link (λ j. (link-off r m g (tag r m x) f.high s.link f.link j).1) (λ j. (link-off r m g (tag r m x) f.high s.link f.link j).0) ∙ named

  left2 : slice_index up (left_at r y) ≡ 0
  left2 = other (left_at r y) (λ j q. absurd (omega arith)) (λ j q. absurd (omega arith)) ∙ least

  right2 : slice_index up (right_at r y) ≡ v
  right2 = other (right_at r y) (λ j q. absurd (omega arith)) (λ j q. absurd (omega arith))

  value2 : value r up y ≡ 0
  value2 = mended-value r (less_one s.tag) (step_to (value r m y) 0) r.cells (right_at r x) (set (set m (value_at r x) (value r m y)) (value_at r y) 0) y
      ∙ get_or-set_same (set m (value_at r x) (value r m y)) (value_at r y) 0 0 (let i = yu.inside in simp length-set (omega arith))

  room2 : r.at + 1 + 5 * r.cells ≤ length up
  room2 = let l = moved-length r x y (less_one s.tag) m in omega arith

  h3 : Holds r (moved_out r x y s m) (shifted g (tag r up y) (tag r m x) f.high)
  h3 = spliced-holds r up g (tag r m x) f.high s.link y v h2 lk2 named2 (inl (left2, right2)) value2 room2

  pub least-tags : (i : ℕ) → i ≢ y → tag r (moved_out r x y s m) i ≡ tag r m i
  least-tags i d = s-tags r up g (tag r m x) f.high s.link y v (tree-of r up g h2) lk2 named2 room2 i d ∙ tags2 i

  pub least-freed : tag r (moved_out r x y s m) y ≡ 0
  least-freed = s-tag r up g (tag r m x) f.high s.link y v (tree-of r up g h2) lk2 named2 room2

  pub least-values : (i : ℕ) → i ≢ y → value r (moved_out r x y s m) i ≡ value r (moved_up r x y (less_one s.tag) m) i
  least-values i d = s-values r up g (tag r m x) f.high s.link y v (tree-of r up g h2) lk2 named2 room2 i d

  pub least-apart : x ≢ y
  least-apart q = let a : tag r m x ≡ tag r m y = ap (tag r m) q in let b = least-names.0.above in absurd (omega arith)

  pub least-room : r.at + 1 + 5 * r.cells ≤ length (moved_out r x y s m)
  least-room = let l : length (moved_out r x y s m) ≡ length up = simp length-set in let r2 = room2 in omega arith

  beyond : (i : ℕ) → Used r (moved_out r x y s m) i → tag r (moved_out r x y s m) x < tag r (moved_out r x y s m) i → s.tag < tag r (moved_out r x y s m) i
  beyond i o lt =
      let d : i ≢ y = λ q. (let a = ap (tag r (moved_out r x y s m)) q in let b = least-freed in let p = o.pos in absurd (omega arith)) in
      let ti = least-tags i d in
      let tx = least-tags x least-apart in
      let z = least-gap (pool r) m g (tag r m x) (g.high x) y i s w.shape f e (record { inside = o.inside; pos = (let p = o.pos in omega arith) }) d (omega arith) in omega arith

  pub replaced-keeps : IsSumMap r (replaced_by r x s m)
  replaced-keeps = subst (λ z. IsSumMap r (retagged r x s.tag (spliced r z s.link (slice_index m (right_at r z)) (moved_up r x z (less_one s.tag) m)))) (sym (ap less_one e)) (
    _,
    retagged-holds r (moved_out r x y s m) (shifted g (tag r up y) (tag r m x) f.high) x s.tag h3 (record { inside = u.inside; pos = (let t = least-tags x least-apart in let p = u.pos in omega arith) })
        (let t = least-tags x least-apart in let q = tag-is in let a = least-names.0.above in omega arith)
        (let q = tag-is in let b = w.shape.small y yu.inside in omega arith) beyond least-room,
  )

-- A CELL TAKEN OUT that has no value
pub taken_out-keeps : (r : SumMap) (m : List ℕ) (g : Ranges) (l h e x : ℕ) → Holds r m g → LinkOf (pool r) m g l h e
    → slice_index m e ≡ suc x → value r m x ≡ 0 → ((i : ℕ) → i < r.cells → value r m i < 2 ^ 64) → r.at + 1 + 5 * r.cells ≤ length m
    → IsSumMap r (taken_out r x e m)
taken_out-keeps r m g l h e x w k named none fits room = by (slice_index m (left_at r x) == 0) refl (slice_index m (right_at r x) == 0) refl
  where
    names : Names (pool r) m g l h (suc x)
    names = subst (Names (pool r) m g l h) named (w.shape.names l h e k)

    u : Used r m x
    u = named-used (pool r) m g l h x names

    rl : LinkOf (pool r) m g (tag r m x) (g.high x) (right_at r x)
    rl = inr (inr (x, refl, refl, refl, u))

    least : Leftmost (pool r) m g (tag r m x) (g.high x) (leftmost r m r.cells (right_at r x))
    least = leftmost-found (pool r) m g r.cells (tag r m x) (g.high x) (right_at r x) w.shape rl (how_many-most _ r.cells)

    by : (b : Bool) → (slice_index m (left_at r x) == 0) ≡ b → (c : Bool) → (slice_index m (right_at r x) == 0) ≡ c
        → IsSumMap r (if b then spliced r x e (slice_index m (right_at r x)) m else (if c then spliced r x e (slice_index m (left_at r x)) m else replaced_by r x (leftmost r m r.cells (right_at r x)) m))
    by true p c q = (_, spliced-holds r m g l h e x (slice_index m (right_at r x)) w k named (inl (grind (arith, nat_tests), refl)) none room)
    by false p true q = (_, spliced-holds r m g l h e x (slice_index m (left_at r x)) w k named (inr (grind (arith, nat_tests), refl)) none room)
    by false p false q = at (leftmost r m r.cells (right_at r x)).next refl (slice_index m (right_at r x)) refl (w.shape.names (tag r m x) (g.high x) (right_at r x) rl)
      where
        at : (n : ℕ) → (leftmost r m r.cells (right_at r x)).next ≡ n → (v : ℕ) → slice_index m (right_at r x) ≡ v
            → Names (pool r) m g (tag r m x) (g.high x) v → IsSumMap r (replaced_by r x (leftmost r m r.cells (right_at r x)) m)
        at n c zero d nm = absurd (grind (arith, nat_tests))
        at zero c (suc j) d nm = absurd (least.none c j nm.0)
        at (suc y) c (suc j) d nm =
            let ny : Names (pool r) m g (tag r m x) least.high (suc y) = subst (Names (pool r) m g (tag r m x) least.high) (least.word ∙ c)
            (w.shape.names (tag r m x) least.high (leftmost r m r.cells (right_at r x)).link least.link) in
            replaced-keeps r m g x y (leftmost r m r.cells (right_at r x)) w u none least c (fits y ny.0.inside) room

-- WHAT THE LEAST IS, where there is something on the right
pub least-facts : (r : SumMap) (m : List ℕ) (x v : ℕ) (p : Position) → HasRight r x v m → 0 < v → p ≡ leftmost r m r.cells (right_at r x) → (p.next ≢ 0) × (0 < p.tag) × (p.tag < top)
least-facts r m x v p h lt e =
    subst (λ q. (q.next ≢ 0) × (0 < q.tag) × (q.tag < top)) (sym e) (by (leftmost r m r.cells (right_at r x)).next refl
    (slice_index m (right_at r x)) refl (h.well.1.shape.names (tag r m x) (h.well.0.high x) (right_at r x) rl))
  where
    rl : LinkOf (pool r) m h.well.0 (tag r m x) (h.well.0.high x) (right_at r x)
    rl = inr (inr (x, refl, refl, refl, h.used))

    f : Leftmost (pool r) m h.well.0 (tag r m x) (h.well.0.high x) (leftmost r m r.cells (right_at r x))
    f = leftmost-found (pool r) m h.well.0 r.cells (tag r m x) (h.well.0.high x) (right_at r x) h.well.1.shape rl (how_many-most _ r.cells)

    by : (n : ℕ) → (leftmost r m r.cells (right_at r x)).next ≡ n → (u : ℕ) → slice_index m (right_at r x) ≡ u → Names (pool r) m h.well.0 (tag r m x) (h.well.0.high x) u
        → ((leftmost r m r.cells (right_at r x)).next ≢ 0) × (0 < (leftmost r m r.cells (right_at r x)).tag) × ((leftmost r m r.cells (right_at r x)).tag < top)
    by n q zero d nm = let z = h.right in absurd (omega arith)
    by zero q (suc j) d nm = absurd (f.none q j nm.0)
    by (suc y) q (suc j) d nm =
        let ny : Names (pool r) m h.well.0 (tag r m x) f.high (suc y) = subst (Names (pool r) m h.well.0 (tag r m x) f.high) (f.word ∙ q)
        (h.well.1.shape.names (tag r m x) f.high (leftmost r m r.cells (right_at r x)).link f.link) in
        let t = (f.some y q).0 in let a = ny.0.above in let s = h.well.1.shape.small y ny.0.inside in
        ((λ z. absurd (omega arith)), omega arith, omega arith)

pub minus-one : (t : ℕ) → t - 1 ≡ less_one t
minus-one zero = refl
minus-one (suc t) = omega arith

-- THE STATES OF THE REPLACEMENT: m is the memory before it
pub record Leaving (r : SumMap) (words x v : ℕ) (p : Position) (m : List ℕ) : Type 0 where
  pub right : HasRight r x v m
  pub long : length m ≡ words
  pub place : p ≡ leftmost r m r.cells (right_at r x)

pub record Taking (r : SumMap) (words x : ℕ) (p : Position) (y a b : ℕ) (m : List ℕ) : Type 0 where
  pub well : IsSumMap r m
  pub long : length m ≡ words
  pub used : Used r m x
  pub none : value r m x ≡ 0
  pub place : p ≡ leftmost r m r.cells (right_at r x)
  pub after : a ≡ slice_index m (right_at r y)
  pub held : b ≡ value r m y

-- after the two values are written
abbrev pub valued : SumMap → ℕ → ℕ → ℕ → List ℕ → List ℕ
valued r x y b m = set (set m (value_at r x) b) (value_at r y) 0

module _ (r : SumMap) (words x : ℕ) (p : Position) (y a b : ℕ) (m : List ℕ) (w : Taking r words x p y a b m) (next : p.next ≡ suc y) (fits : b < 2 ^ 64) (room : r.at + 1 + 5 * r.cells ≤ words) where
  rx : LinkOf (pool r) m w.well.0 (tag r m x) (w.well.0.high x) (right_at r x)
  rx = inr (inr (x, refl, refl, refl, w.used))

  lm : Leftmost (pool r) m w.well.0 (tag r m x) (w.well.0.high x) p
  lm =
      subst (Leftmost (pool r) m w.well.0 (tag r m x) (w.well.0.high x)) (sym w.place)
      (leftmost-found (pool r) m w.well.0 r.cells (tag r m x) (w.well.0.high x) (right_at r x) w.well.1.shape rx (how_many-most _ r.cells))

  ny : Names (pool r) m w.well.0 (tag r m x) lm.high (suc y)
  ny = subst (Names (pool r) m w.well.0 (tag r m x) lm.high) (lm.word ∙ next) (w.well.1.shape.names (tag r m x) lm.high p.link lm.link)

  fit : value r m y < 2 ^ 64
  fit = subst (λ z. z < 2 ^ 64) w.held fits

  pub taking-links : LinksFrom r (right_at r x) (valued r x y b m)
  taking-links =
      let t : tag r m y ≡ suc (less_one p.tag) = (let q = (lm.some y next).0 in let c = ny.0.above in sym (less-one p.tag (omega arith) ∙ q)) in
      let l : LinksInside r (valued r x y (value r m y) m) = tree-links r (valued r x y (value r m y) m) w.well.0
      (k-tree r m w.well.0 x y lm.high p.link (less_one p.tag) w.well.1 w.used w.none lm.link (lm.word ∙ next) (lm.some y next).1 t fit
      (let e = w.long in omega arith)) in
      subst (λ z. LinksFrom r (right_at r x) (valued r x y z m)) (sym w.held) (record { links = l; from = (l.1 x w.used.inside).1 })

  pub taking-is : (z : List ℕ) → z ≡ retagged r x p.tag (spliced r y p.link a (mended r (p.tag - 1) (step_to b 0) r.cells (right_at r x) (valued r x y b m))) → (least_taken r x m ≡ changed true z) × IsSumMap r z
  taking-is z e =
      let q = minus-one p.tag in
      let o = w.held in
      let i = w.after in
      let less : less_one p.next ≡ y = ap less_one next in
      let same : replaced_by r x p m ≡ z = rw less (sym (e ∙ rw (q, o, i) refl)) in
      let all : replaced_by r x (leftmost r m r.cells (right_at r x)) m ≡ z = ap (λ s. replaced_by r x s m) (sym w.place) ∙ same in
      (ap (changed true) all, subst (IsSumMap r) same (replaced-keeps r m w.well.0 x y p w.well.1 w.used w.none lm next fit (let e = w.long in omega arith)))

-- THE STATES OF A REMOVAL
pub emptied-link : (r : SumMap) (m : List ℕ) (g : Ranges) (a : ℕ) → IsLink r m a → (l : ℕ) × (h : ℕ) × LinkOf (pool r) m g l h a
emptied-link r m g a (inl e) = (0, top, inl (e, refl, refl))
emptied-link r m g a (inr (i, u, inl e)) = (g.low i, tag r m i, inr (inl (i, e, refl, refl, u)))
emptied-link r m g a (inr (i, u, inr e)) = (tag r m i, g.high i, inr (inr (i, e, refl, refl, u)))

pub emptied-used : (r : SumMap) (m : List ℕ) (x e : ℕ) → IsEmptied r x e m → Used r m x
emptied-used r m x e w =
    let o = emptied-link r m w.well.0 e w.link in
    named-used (pool r) m w.well.0 o.0 o.1 x (subst (Names (pool r) m w.well.0 o.0 o.1) w.named (w.well.1.shape.names o.0 o.1 e o.2))

-- what a cell's links are before it is taken out
pub record Cutting (r : SumMap) (words x e u v : ℕ) (m : List ℕ) : Type 0 where
  pub well : IsEmptied r x e m
  pub long : length m ≡ words
  pub left : u ≡ slice_index m (left_at r x)
  pub right : v ≡ slice_index m (right_at r x)

-- what a splice that gives the link the word s leaves
pub walks-cut : (good : List ℕ → Type 0) (words : ℕ) (l k j : Log) (r : SumMap) (x e u v s : ℕ) → Shows good words l k (Cutting r words x e u v) → k.writes ≡ l.writes → Turns k j (spliced r x e s)
    → ((m : List ℕ) → Cutting r words x e u v m → (taken_in r x e m ≡ changed true (spliced r x e s m)) × IsSumMap r (spliced r x e s m)) → Walks good words l j (λ m z. (taken_in r x e m ≡ changed true z) × IsSumMap r z)
walks-cut good words l k j r x e u v s reads ws turns cut =
    let w0 = walks-shown good words l k (Cutting r words x e u v) (λ m z. Cutting r words x e u v m × (z ≡ m)) reads ws (λ m h. (h, refl)) in
    walks-turns good words l k j (λ m z. Cutting r words x e u v m × (z ≡ m)) (λ m z. (taken_in r x e m ≡ changed true z) × IsSumMap r z) (spliced r x e s) w0 turns
    (λ m z h. subst (λ i. (taken_in r x e m ≡ changed true (spliced r x e s i)) × IsSumMap r (spliced r x e s i)) (sym h.1) (cut m h.0))

pub out-right : (r : SumMap) (m : List ℕ) (x e u v : ℕ) → IsEmptied r x e m → r.at + 1 + 5 * r.cells ≤ length m
    → u ≡ slice_index m (left_at r x) → u ≡ 0 → v ≡ slice_index m (right_at r x)
    → (taken_in r x e m ≡ changed true (spliced r x e v m)) × IsSumMap r (spliced r x e v m)
out-right r m x e u v w room a z b =
    let o = emptied-link r m w.well.0 e w.link in
    let n : slice_index m (left_at r x) ≡ 0 = sym a ∙ z in
    let q : (slice_index m (left_at r x) == 0) ≡ true = grind (arith, nat_tests) in
    (rw (q, b) refl, (_, spliced-holds r m w.well.0 o.0 o.1 e x v w.well.1 o.2 w.named (inl (n, sym b)) w.none room))

pub out-left : (r : SumMap) (m : List ℕ) (x e u v : ℕ) → IsEmptied r x e m → r.at + 1 + 5 * r.cells ≤ length m
    → u ≡ slice_index m (left_at r x) → u ≢ 0 → v ≡ slice_index m (right_at r x) → v ≡ 0
    → (taken_in r x e m ≡ changed true (spliced r x e u m)) × IsSumMap r (spliced r x e u m)
out-left r m x e u v w room a d b z =
    let o = emptied-link r m w.well.0 e w.link in
    let n : slice_index m (right_at r x) ≡ 0 = sym b ∙ z in
    let q : (slice_index m (left_at r x) == 0) ≡ false = (let y : slice_index m (left_at r x) ≢ 0 = λ i. d (a ∙ i) in grind (arith, nat_tests)) in
    let p : (slice_index m (right_at r x) == 0) ≡ true = grind (arith, nat_tests) in
    (rw (q, p, a) refl, (_, spliced-holds r m w.well.0 o.0 o.1 e x u w.well.1 o.2 w.named (inr (n, sym a)) w.none room))

pub out-both : (r : SumMap) (m : List ℕ) (x e u v : ℕ) → u ≡ slice_index m (left_at r x) → u ≢ 0 → v ≡ slice_index m (right_at r x) → v ≢ 0 → taken_in r x e m ≡ least_taken r x m
out-both r m x e u v a d b f =
    let q : (slice_index m (left_at r x) == 0) ≡ false = (let y : slice_index m (left_at r x) ≢ 0 = λ i. d (a ∙ i) in grind (arith, nat_tests)) in
    let p : (slice_index m (right_at r x) == 0) ≡ false = (let y : slice_index m (right_at r x) ≢ 0 = λ i. f (b ∙ i) in grind (arith, nat_tests)) in
    rw (q, p) refl

-- a key's cell, once its value is 0, is still named by the link that the find gave
pub emptied-of : (r : SumMap) (m : List ℕ) (key j : ℕ) (s : Position) → IsSumMap r m → key < 2 ^ 32 → s ≡ position_of r m key
    → s.next ≡ suc j → r.at + 1 + 5 * r.cells ≤ length m → IsSumMap r (replaced_in r key 0 j m).memory
    → IsEmptied r j s.link (replaced_in r key 0 j m).memory
emptied-of r m key j s w small e n room after =
    record {
      well = after;
      link = moved f.link;
      named = words ∙ (f.word ∙ n);
      none = mended-value r key (step_to (value r m j) 0) r.cells r.at (set m (value_at r j) 0) j
          ∙ get_or-set_same m (value_at r j) 0 0 (let i = inside in omega arith);
    }
  where
    f : Found (pool r) m w.0 key s
    f = subst (Found (pool r) m w.0 key) (sym e) (position-found (pool r) m w.0 key w.1.shape small)

    inside : j < r.cells
    inside = (subst (Names (pool r) m w.0 f.low f.high) (f.word ∙ n) (w.1.shape.names f.low f.high s.link f.link)).0.inside

    other : (z : ℕ) → ((i : ℕ) → z ≢ sum_at r i) → z ≢ value_at r j → get_or (replaced_in r key 0 j m).memory z 0 ≡ get_or m z 0
    other z a b = mended-other r key (step_to (value r m j) 0) r.cells r.at (set m (value_at r j) 0) z a ∙ get_or-set_other m (value_at r j) z 0 0 b

    words : get_or (replaced_in r key 0 j m).memory s.link 0 ≡ get_or m s.link 0
    words = other s.link (λ i. (link-off r m w.0 f.low f.high s.link f.link i).1) (link-off r m w.0 f.low f.high s.link f.link j).0

    used : (i : ℕ) → Used r m i → Used r (replaced_in r key 0 j m).memory i
    used i u = record { inside = u.inside; pos = subst (λ z. 0 < z) (sym (other (tag_at r i) (λ k q. absurd (omega arith)) (λ q. absurd (omega arith)))) u.pos }

    moved : LinkOf (pool r) m w.0 f.low f.high s.link → IsLink r (replaced_in r key 0 j m).memory s.link
    moved (inl x) = inl x.0
    moved (inr (inl (i, p, q, o, u))) = inr (i, used i u, inl p)
    moved (inr (inr (i, p, q, o, u))) = inr (i, used i u, inr p)

pub remove-none : (r : SumMap) (m : List ℕ) (key : ℕ) (s : Position) → s ≡ position_of r m key → s.next ≡ 0 → removed_in r key m ≡ unchanged false m
remove-none r m key s e n = ap (removed_by r key m) (ap (λ p. p.next) (sym e) ∙ n)

pub remove-some : (r : SumMap) (m : List ℕ) (key j : ℕ) (s : Position) → s ≡ position_of r m key → s.next ≡ suc j → removed_in r key m ≡ taken_in r j s.link (replaced_in r key 0 j m).memory
remove-some r m key j s e n = ap (removed_by r key m) (ap (λ p. p.next) (sym e) ∙ n) ∙ ap (λ p. taken_in r j p.link (replaced_in r key 0 j m).memory) (sym e)
