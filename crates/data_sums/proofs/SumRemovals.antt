-- A cell without a value, taken out of a map, keeps it well formed.
use Rattle.std.proofs.Common.{ℕ, zero, suc, ◌≡◌, ◌<◌, ◌≤◌, ◌≢◌, ◌+◌, ◌*◌, ◌%◌, ◌^◌, List, length, get_or, set, Bool, true, false, refl, sym, ap, ◌∙◌, arith, subst, inl, inr}
use Rattle.std.specs.Prelude.{◌⊎◌, ◌==◌, ◌&&◌, ltb, if◌then◌else◌, slice_index}
use Rattle.std.proofs.Math.ListN.{length-set}
use Rattle.std.proofs.lemmas.List.{get_or-set_same, get_or-set_other}
use Rattle.std.proofs.lemmas.Bool.Decides.{nat_tests}
use Rattle.data_tree.specs.Shapes.{Ranges, Within, LinkOf, Names, Bounds, top}
use Rattle.data_tree.proofs.ShapeWalks.{Found, position-found}
use Rattle.data_tree.proofs.ShapeOrder.{link-one, link-inside, link-used}
use Rattle.data_tree.proofs.ShapeSplices.{shift, shift-by, shifted, splice-keeps}
use Rattle.data_sums.specs.declared.sum_map.SumMap.{SumMap}
use Rattle.data_sums.specs.Sums.{pool, tag_at, left_at, right_at, value_at, sum_at, tag, value, Used, Holds, sum_within, spliced, position_of}
use Rattle.data_sums.proofs.SumTrees.{Tree, tree-of, holds-of, part, part-step, part-same, part-out}
use Rattle.data_sums.proofs.SumPuts.{link-off}

-- THE WORDS after a splice: the link e, which names y, gets v, and y's words are 0
module _ (r : SumMap) (m : List ℕ) (g : Ranges) (l h e y v : ℕ) (w : Tree r m g) (x : LinkOf (pool r) m g l h e) (named : slice_index m e ≡ suc y) (room : r.at + 1 + 5 * r.cells ≤ length m) where
  abbrev k : List ℕ
  k = spliced r y e v m

  s-names : Names (pool r) m g l h (suc y)
  s-names = subst (Names (pool r) m g l h) named (w.shape.names l h e x)

  s-inside : y < r.cells
  s-inside = s-names.0.inside

  s-used : Used r m y
  s-used = record { inside = s-inside; pos = (let a = s-names.0.above in omega arith) }

  e-tag : (i : ℕ) → e ≢ tag_at r i
  e-tag = (link-inside (pool r) m g l h e x).0

  e-less : e < r.at + 1 + 5 * r.cells
  e-less = (link-inside (pool r) m g l h e x).1

  e-value : (i : ℕ) → e ≢ value_at r i
  e-value i = (link-off r m g l h e x i).0

  e-sum : (i : ℕ) → e ≢ sum_at r i
  e-sum i = (link-off r m g l h e x i).1

  e-left : e ≢ left_at r y
  e-left q =
      let o = (link-one (pool r) m g l h (g.low y) (tag r m y) (left_at r y) w.shape (subst (LinkOf (pool r) m g l h) q x)
      (inr (inl (y, refl, refl, refl, s-used)))).1 in
      let b = s-names.0.below in absurd (omega arith)

  e-right : e ≢ right_at r y
  e-right q =
      let o = (link-one (pool r) m g l h (tag r m y) (g.high y) (right_at r y) w.shape (subst (LinkOf (pool r) m g l h) q x)
      (inr (inr (y, refl, refl, refl, s-used)))).0 in
      let b = s-names.0.above in absurd (omega arith)

  abbrev m1 : List ℕ
  m1 = set m e v

  abbrev m2 : List ℕ
  m2 = set m1 (tag_at r y) 0

  abbrev m3 : List ℕ
  m3 = set m2 (left_at r y) 0

  abbrev m4 : List ℕ
  m4 = set m3 (right_at r y) 0

  abbrev m5 : List ℕ
  m5 = set m4 (value_at r y) 0

  s-other : (z : ℕ) → z ≢ e → z ≢ tag_at r y → z ≢ left_at r y → z ≢ right_at r y → z ≢ value_at r y → z ≢ sum_at r y → get_or k z 0 ≡ get_or m z 0
  s-other z a b c d f o =
      get_or-set_other m5 (sum_at r y) z 0 0 o
      ∙ (get_or-set_other m4 (value_at r y) z 0 0 f
      ∙ (get_or-set_other m3 (right_at r y) z 0 0 d
      ∙ (get_or-set_other m2 (left_at r y) z 0 0 c ∙ (get_or-set_other m1 (tag_at r y) z 0 0 b ∙ get_or-set_other m e z v 0 a))))

  pub s-tags : (i : ℕ) → i ≢ y → tag r (spliced r y e v m) i ≡ tag r m i
  s-tags i d = s-other (tag_at r i) (λ q. e-tag i (sym q)) (λ q. d (omega arith)) (λ q. absurd (omega arith)) (λ q. absurd (omega arith)) (λ q. absurd (omega arith)) (λ q. absurd (omega arith))

  pub s-values : (i : ℕ) → i ≢ y → value r (spliced r y e v m) i ≡ value r m i
  s-values i d = s-other (value_at r i) (λ q. e-value i (sym q)) (λ q. absurd (omega arith)) (λ q. absurd (omega arith)) (λ q. absurd (omega arith)) (λ q. d (omega arith)) (λ q. absurd (omega arith))

  pub s-sums : (i : ℕ) → i ≢ y → slice_index (spliced r y e v m) (sum_at r i) ≡ slice_index m (sum_at r i)
  s-sums i d = s-other (sum_at r i) (λ q. e-sum i (sym q)) (λ q. absurd (omega arith)) (λ q. absurd (omega arith)) (λ q. absurd (omega arith)) (λ q. absurd (omega arith)) (λ q. d (omega arith))

  pub s-tag : tag r (spliced r y e v m) y ≡ 0
  s-tag = get_or-set_other m5 (sum_at r y) (tag_at r y) 0 0 (λ q. absurd (omega arith)) ∙ (get_or-set_other m4 (value_at r y) (tag_at r y) 0
      0 (λ q. absurd (omega arith)) ∙ (get_or-set_other m3 (right_at r y) (tag_at r y) 0 0 (λ q. absurd (omega arith))
      ∙ (get_or-set_other m2 (left_at r y) (tag_at r y) 0 0 (λ q. absurd (omega arith)) ∙ get_or-set_same m1 (tag_at r y) 0 0 (let i = s-inside in simp length-set (omega arith)))))

  s-left : slice_index k (left_at r y) ≡ 0
  s-left = get_or-set_other m5 (sum_at r y) (left_at r y) 0 0 (λ q. absurd (omega arith)) ∙ (get_or-set_other m4 (value_at r y)
      (left_at r y) 0 0 (λ q. absurd (omega arith)) ∙ (get_or-set_other m3 (right_at r y) (left_at r y) 0 0 (λ q. absurd (omega arith))
      ∙ get_or-set_same m2 (left_at r y) 0 0 (let i = s-inside in simp length-set (omega arith))))

  s-right : slice_index k (right_at r y) ≡ 0
  s-right =
      get_or-set_other m5 (sum_at r y) (right_at r y) 0 0 (λ q. absurd (omega arith))
      ∙ (get_or-set_other m4 (value_at r y) (right_at r y) 0 0 (λ q. absurd (omega arith))
      ∙ get_or-set_same m3 (right_at r y) 0 0 (let i = s-inside in simp length-set (omega arith)))

  s-value : value r k y ≡ 0
  s-value = get_or-set_other m5 (sum_at r y) (value_at r y) 0 0 (λ q. absurd (omega arith)) ∙ get_or-set_same m4 (value_at r y) 0 0 (let i = s-inside in simp length-set (omega arith))

  s-sum : slice_index k (sum_at r y) ≡ 0
  s-sum = get_or-set_same m5 (sum_at r y) 0 0 (let i = s-inside in simp length-set (omega arith))

  s-link : slice_index k e ≡ v
  s-link = get_or-set_other m5 (sum_at r y) e 0 0 (e-sum y) ∙ (get_or-set_other m4 (value_at r y) e 0 0 (e-value y) ∙ (get_or-set_other m3 (right_at r y) e 0 0 e-right ∙ (get_or-set_other m2 (left_at r y) e 0 0 e-left
      ∙ (get_or-set_other m1 (tag_at r y) e 0 0 (e-tag y) ∙ get_or-set_same m e v 0 (let i = e-less in omega arith)))))

  pub spliced-tree : ((slice_index m (left_at r y) ≡ 0) × (slice_index m (right_at r y) ≡ v))
      ⊎ ((slice_index m (right_at r y) ≡ 0) × (slice_index m (left_at r y) ≡ v)) → Tree r (spliced r y e v m) (shifted g (tag r m y) l h)
  spliced-tree one = record {
    shape = splice-keeps (pool r) m k g l h e y v w.shape x named one s-tags s-tag
        (λ lo hi a z d nl nr. let o = link-inside (pool r) m g lo hi a z in let f = link-off r m g lo hi a z y in s-other a d (o.0 y) nl nr f.0 f.1)
        s-link (s-left, s-right)
        (λ i lt z. let o = link-used (pool r) m g l h e i x z in let sp = w.shape.spare i lt z in
        let d : i ≢ y = λ q. (let a : tag r m i ≡ tag r m y = ap (tag r m) q in let b = s-used.pos in absurd (omega arith)) in (
          s-other (left_at r i) (λ q. o.0 (sym q)) (λ q. absurd (omega arith)) (λ q. d (omega arith)) (λ q. absurd (omega arith)) (λ q. absurd (omega arith)) (λ q. absurd (omega arith)) ∙ sp.0,
          s-other (right_at r i) (λ q. o.1 (sym q)) (λ q. absurd (omega arith)) (λ q. absurd (omega arith)) (λ q. d (omega arith)) (λ q. absurd (omega arith)) (λ q. absurd (omega arith)) ∙ sp.1,
        ));
    bare = λ i lt z. by i lt z (i == y) refl;
  }
    where
      by : (i : ℕ) → i < r.cells → tag r k i ≡ 0 → (b : Bool) → (i == y) ≡ b → (value r k i ≡ 0) × (slice_index k (sum_at r i) ≡ 0)
      by i lt z true q = let c : i ≡ y = grind (arith, nat_tests) in (ap (value r k) c ∙ s-value, ap (λ j. get_or k (sum_at r j) 0) c ∙ s-sum)
      by i lt z false q = let d : i ≢ y = grind (arith, nat_tests) in let s = w.bare i lt (sym (s-tags i d) ∙ z) in (s-values i d ∙ s.0, s-sums i d ∙ s.1)

  -- THE SUMS: a cell without a value counts in none
  pub s-part : value r m y ≡ 0 → (l0 h0 l1 h1 : ℕ) → ((i : ℕ) → i ≢ y → Used r m i → ((l0 < tag r m i) × (tag r m i < h0)) → ((l1 < tag r m i) × (tag r m i < h1)))
      → ((i : ℕ) → i ≢ y → Used r m i → ((l1 < tag r m i) × (tag r m i < h1)) → ((l0 < tag r m i) × (tag r m i < h0))) → (n : ℕ) → n ≤ r.cells → sum_within r (spliced r y e v m) l1 h1 n ≡ sum_within r m l0 h0 n
  s-part none l0 h0 l1 h1 to from zero le = refl
  s-part none l0 h0 l1 h1 to from (suc n) le =
      let e = s-part none l0 h0 l1 h1 to from n (omega arith) in
      let a = part-step r k l1 h1 n in
      let b = part-step r m l0 h0 n in
      let c = by (n == y) refl in omega arith
    where
      by : (b : Bool) → (n == y) ≡ b → part r k l1 h1 n ≡ part r m l0 h0 n
      by true q =
          let s : n ≡ y = grind (arith, nat_tests) in
          let t : tag r k n ≡ 0 = ap (tag r k) s ∙ s-tag in
          let z : value r m n ≡ 0 = ap (value r m) s ∙ none in
          part-out r k l1 h1 n (λ p o. absurd (omega arith)) ∙ sym (zeroed (ltb l0 (tag r m n) && ltb (tag r m n) h0) (value r m n) z)
        where
          zeroed : (b : Bool) (v : ℕ) → v ≡ 0 → (if b then v else 0) ≡ 0
          zeroed true v z = z
          zeroed false v z = refl
      by false q =
          let d : n ≢ y = grind (arith, nat_tests) in
          let t = s-tags n d in
          part-same r m k l0 h0 l1 h1 n (s-values n d)
          (λ a b. let f = to n d (record { inside = omega arith; pos = omega arith }) (a, b) in (subst (λ i. l1 < i) (sym t) f.0, subst (λ i. i < h1) (sym t) f.1))
          (λ a b. from n d (record { inside = omega arith; pos = omega arith }) (subst (λ i. l1 < i) t a, subst (λ i. i < h1) t b))

-- A USED CELL is named by the link of its range
pub named-by : (r : SumMap) (m : List ℕ) (g : Ranges) (i : ℕ) → Tree r m g → Used r m i → (a : ℕ) × LinkOf (pool r) m g (g.low i) (g.high i) a × (slice_index m a ≡ suc i)
named-by r m g i w u = by (tag r m i) refl
  where
    by : (t : ℕ) → tag r m i ≡ t → (a : ℕ) × LinkOf (pool r) m g (g.low i) (g.high i) a × (slice_index m a ≡ suc i)
    by zero e = let p = u.pos in absurd (omega arith)
    by (suc key) e = at (position_of r m key).next refl
      where
        f : Found (pool r) m g key (position_of r m key)
        f = position-found (pool r) m g key w.shape (let s = w.shape.small i u.inside in omega arith)

        at : (n : ℕ) → (position_of r m key).next ≡ n → (a : ℕ) × LinkOf (pool r) m g (g.low i) (g.high i) a × (slice_index m a ≡ suc i)
        at zero q =
            let z : Names (pool r) m g f.low f.high 0 = subst (Names (pool r) m g f.low f.high) (f.word ∙ q) (w.shape.names f.low f.high (position_of r m key).link f.link) in
            absurd (z i (record { inside = u.inside; above = (let a = f.above in omega arith); below = (let b = f.below in omega arith) }))
        at (suc j) q =
            let z : Names (pool r) m g f.low f.high (suc j) = subst (Names (pool r) m g f.low f.high) (f.word ∙ q) (w.shape.names f.low f.high (position_of r m key).link f.link) in
            let s : j ≡ i = w.shape.differ j i (record { inside = z.0.inside; pos = (let a = z.0.above in omega arith) }) u ((f.some j q).1 ∙ sym e) in
            let lo : f.low ≡ g.low i = sym z.1 ∙ ap g.low s in
            let hi : f.high ≡ g.high i = sym z.2 ∙ ap g.high s in (
              (position_of r m key).link,
              subst (λ x. LinkOf (pool r) m g x (g.high i) (position_of r m key).link) lo
                  (subst (λ x. LinkOf (pool r) m g f.low x (position_of r m key).link) hi f.link),
              f.word ∙ (q ∙ ap suc s),
            )

-- a range that begins at y's tag is on y's right
low-by : (r : SumMap) (m : List ℕ) (g : Ranges) (y i : ℕ) → Tree r m g → Used r m y → Used r m i → g.low i ≡ tag r m y
    → (a : ℕ) × LinkOf (pool r) m g (g.low i) (g.high i) a × (slice_index m a ≡ suc i) → Bounds (pool r) m g top (g.rank i) (g.high i)
    → ((j : ℕ) → Used r m j → g.rank j < g.rank i → g.low j ≡ tag r m y → (g.high j ≤ g.high y) × (slice_index m (right_at r y) ≡ 0 → ⊥)) → (g.high i ≤ g.high y) × (slice_index m (right_at r y) ≡ 0 → ⊥)
low-by r m g y i w uy u e (a, inl z, named) b go = let p = z.1 in let q = uy.pos in absurd (omega arith)
low-by r m g y i w uy u e (a, inr (inr (j, p, q, o, uj)), named) b go =
    let s : j ≡ y = w.shape.differ j y uj uy (sym q ∙ e) in
    let word : slice_index m (right_at r y) ≡ suc i = ap (λ x. slice_index m (right_at r x)) (sym s) ∙ (ap (slice_index m) (sym p) ∙ named) in
    let hi : g.high i ≡ g.high y = o ∙ ap g.high s in
    (omega arith, λ z. absurd (omega arith))
low-by r m g y i w uy u e (a, inr (inl (j, p, q, o, uj)), named) (inl z) go = let s = w.shape.small j uj.inside in absurd (omega arith)
low-by r m g y i w uy u e (a, inr (inl (j, p, q, o, uj)), named) (inr (k, uk, f, lt)) go =
    let s : k ≡ j = w.shape.differ k j uk uj (f ∙ o) in
    let x : g.rank k ≡ g.rank j = ap g.rank s in
    let h = go j uj (omega arith) (sym q ∙ e) in
    let h0 = h.0 in
    let z = (w.shape.highs j uj).0 in
    (omega arith, h.1)

pub low-of : (r : SumMap) (m : List ℕ) (g : Ranges) (y n i : ℕ) → Tree r m g → Used r m y → g.rank i ≤ n → Used r m i → g.low i ≡ tag r m y → (g.high i ≤ g.high y) × (slice_index m (right_at r y) ≡ 0 → ⊥)
low-of r m g y zero i w uy le u e = low-by r m g y i w uy u e (named-by r m g i w u) (w.shape.highs i u).1 (λ j uj lt f. absurd (omega arith))
low-of r m g y (suc n) i w uy le u e = low-by r m g y i w uy u e (named-by r m g i w u) (w.shape.highs i u).1 (λ j uj lt f. low-of r m g y n j w uy (omega arith) uj f)

-- one that ends there is on its left
high-by : (r : SumMap) (m : List ℕ) (g : Ranges) (y i : ℕ) → Tree r m g → Used r m y → Used r m i → g.high i ≡ tag r m y
    → slice_index m (left_at r y) ≡ 0 → (a : ℕ) × LinkOf (pool r) m g (g.low i) (g.high i) a × (slice_index m a ≡ suc i)
    → Bounds (pool r) m g 0 (g.rank i) (g.low i)
    → ((j : ℕ) → Used r m j → g.rank j < g.rank i → g.high j ≡ tag r m y → ⊥) → ⊥
high-by r m g y i w uy u e none (a, inl z, named) b go = let p = z.2 in let q = w.shape.small y uy.inside in absurd (omega arith)
high-by r m g y i w uy u e none (a, inr (inl (j, p, q, o, uj)), named) b go =
    let s : j ≡ y = w.shape.differ j y uj uy (sym o ∙ e) in
    let word : slice_index m (left_at r y) ≡ suc i = ap (λ x. slice_index m (left_at r x)) (sym s) ∙ (ap (slice_index m) (sym p) ∙ named) in
    absurd (omega arith)
high-by r m g y i w uy u e none (a, inr (inr (j, p, q, o, uj)), named) (inl z) go = let s = uj.pos in absurd (omega arith)
high-by r m g y i w uy u e none (a, inr (inr (j, p, q, o, uj)), named) (inr (k, uk, f, lt)) go =
    let s : k ≡ j = w.shape.differ k j uk uj (f ∙ q) in
    let x : g.rank k ≡ g.rank j = ap g.rank s in
    go j uj (omega arith) (sym o ∙ e)

pub high-of : (r : SumMap) (m : List ℕ) (g : Ranges) (y n i : ℕ) → Tree r m g → Used r m y → g.rank i ≤ n → Used r m i → g.high i ≡ tag r m y → slice_index m (left_at r y) ≡ 0 → ⊥
high-of r m g y zero i w uy le u e none = high-by r m g y i w uy u e none (named-by r m g i w u) (w.shape.lows i u).1 (λ j uj lt f. absurd (omega arith))
high-of r m g y (suc n) i w uy le u e none = high-by r m g y i w uy u e none (named-by r m g i w u) (w.shape.lows i u).1 (λ j uj lt f. high-of r m g y n j w uy (omega arith) uj f none)

-- A CELL WITHOUT A VALUE SPLICED OUT leaves every sum right
pub spliced-holds : (r : SumMap) (m : List ℕ) (g : Ranges) (l h e y v : ℕ) → Holds r m g → LinkOf (pool r) m g l h e → slice_index m e ≡ suc y
    → ((slice_index m (left_at r y) ≡ 0) × (slice_index m (right_at r y) ≡ v)) ⊎ ((slice_index m (right_at r y) ≡ 0) × (slice_index m (left_at r y) ≡ v))
    → value r m y ≡ 0 → r.at + 1 + 5 * r.cells ≤ length m → Holds r (spliced r y e v m) (shifted g (tag r m y) l h)
spliced-holds r m g l h e y v w x named one none room = holds-of r (spliced r y e v m) (shifted g (tag r m y) l h) (spliced-tree r m g l h e y v tree x named room one) (λ i u. right i u (not-y i u))
  where
    tree : Tree r m g
    tree = tree-of r m g w

    names : Names (pool r) m g l h (suc y)
    names = subst (Names (pool r) m g l h) named (w.shape.names l h e x)

    uy : Used r m y
    uy = record { inside = names.0.inside; pos = (let a = names.0.above in omega arith) }

    not-y : (i : ℕ) → Used r (spliced r y e v m) i → i ≢ y
    not-y i u q = let a : tag r (spliced r y e v m) i ≡ tag r (spliced r y e v m) y = ap (tag r (spliced r y e v m)) q in let b = s-tag r m g l h e y v tree x named room in let p = u.pos in absurd (omega arith)

    no-left : slice_index m (left_at r y) ≡ 0 → (i : ℕ) → Within (pool r) m l (tag r m y) i → ⊥
    no-left z = subst (Names (pool r) m g l (tag r m y)) z (w.shape.names l (tag r m y) (left_at r y) (inr (inl (y, refl, sym names.1, refl, uy))))

    no-right : slice_index m (right_at r y) ≡ 0 → (i : ℕ) → Within (pool r) m (tag r m y) h i → ⊥
    no-right z = subst (Names (pool r) m g (tag r m y) h) z (w.shape.names (tag r m y) h (right_at r y) (inr (inr (y, refl, refl, sym names.2, uy))))

    right : (i : ℕ) → Used r (spliced r y e v m) i → i ≢ y
        → slice_index (spliced r y e v m) (sum_at r i) ≡ sum_within r (spliced r y e v m) (shift (tag r m y) l (g.low i)) (shift (tag r m y) h (g.high i)) r.cells % 2 ^ 64
    right i u d =
        let t = s-tags r m g l h e y v tree x named room i d in
        let ui : Used r m i = record { inside = u.inside; pos = subst (λ z. 0 < z) t u.pos } in
        s-sums r m g l h e y v tree x named room i d ∙ (w.sums i ui
        ∙ ap (λ z. z % 2 ^ 64) (sym (s-part r m g l h e y v tree x named room none (g.low i) (g.high i) (shift (tag r m y) l (g.low i)) (shift (tag r m y) h (g.high i)) to (from ui) r.cells (omega arith))))
      where
        to : (c : ℕ) → c ≢ y → Used r m c → ((g.low i < tag r m c) × (tag r m c < g.high i)) → ((shift (tag r m y) l (g.low i) < tag r m c) × (tag r m c < shift (tag r m y) h (g.high i)))
        to c dc uc b = (lo (shift-by (tag r m y) l (g.low i)) b.0, hi (shift-by (tag r m y) h (g.high i)) b.1)
          where
            lo : ((g.low i ≡ tag r m y) × (shift (tag r m y) l (g.low i) ≡ l)) ⊎ ((g.low i ≢ tag r m y) × (shift (tag r m y) l (g.low i) ≡ g.low i)) → g.low i < tag r m c → shift (tag r m y) l (g.low i) < tag r m c
            lo (inl (p, q)) b = let a = names.0.above in omega arith
            lo (inr (p, q)) b = omega arith

            hi : ((g.high i ≡ tag r m y) × (shift (tag r m y) h (g.high i) ≡ h))
                ⊎ ((g.high i ≢ tag r m y) × (shift (tag r m y) h (g.high i) ≡ g.high i)) → tag r m c < g.high i
                → tag r m c < shift (tag r m y) h (g.high i)
            hi (inl (p, q)) b = let a = names.0.below in omega arith
            hi (inr (p, q)) b = omega arith

        from : Used r m i → (c : ℕ) → c ≢ y → Used r m c → ((shift (tag r m y) l (g.low i) < tag r m c) × (tag r m c < shift (tag r m y) h (g.high i))) → ((g.low i < tag r m c) × (tag r m c < g.high i))
        from ui c dc uc b = (lo (shift-by (tag r m y) l (g.low i)) b.0 one (ltb (tag r m c) (tag r m y)) refl, hi (shift-by (tag r m y) h (g.high i)) b.1 one (ltb (tag r m y) (tag r m c)) refl)
          where
            off : tag r m c ≢ tag r m y
            off q = dc (w.shape.differ c y uc uy q)

            lo : ((g.low i ≡ tag r m y) × (shift (tag r m y) l (g.low i) ≡ l)) ⊎ ((g.low i ≢ tag r m y) × (shift (tag r m y) l (g.low i) ≡ g.low i)) → shift (tag r m y) l (g.low i) < tag r m c
                → ((slice_index m (left_at r y) ≡ 0) × (slice_index m (right_at r y) ≡ v)) ⊎ ((slice_index m (right_at r y) ≡ 0) × (slice_index m (left_at r y) ≡ v))
                → (s : Bool) → ltb (tag r m c) (tag r m y) ≡ s → g.low i < tag r m c
            lo (inr (p, q)) b o s f = omega arith
            lo (inl (p, q)) b (inr z) s f = absurd ((low-of r m g y (g.rank i) i tree uy (omega arith) ui p).1 z.0)
            lo (inl (p, q)) b (inl z) true f = absurd (no-left z.0 c (record { inside = uc.inside; above = omega arith; below = grind (arith, nat_tests) }))
            lo (inl (p, q)) b (inl z) false f = let a : tag r m y ≤ tag r m c = grind (arith, nat_tests) in let o = off in omega arith

            hi : ((g.high i ≡ tag r m y) × (shift (tag r m y) h (g.high i) ≡ h)) ⊎ ((g.high i ≢ tag r m y) × (shift (tag r m y) h (g.high i) ≡ g.high i)) → tag r m c < shift (tag r m y) h (g.high i)
                → ((slice_index m (left_at r y) ≡ 0) × (slice_index m (right_at r y) ≡ v)) ⊎ ((slice_index m (right_at r y) ≡ 0) × (slice_index m (left_at r y) ≡ v))
                → (s : Bool) → ltb (tag r m y) (tag r m c) ≡ s → tag r m c < g.high i
            hi (inr (p, q)) b o s f = omega arith
            hi (inl (p, q)) b (inl z) s f = absurd (high-of r m g y (g.rank i) i tree uy (omega arith) ui p z.0)
            hi (inl (p, q)) b (inr z) true f = absurd (no-right z.0 c (record { inside = uc.inside; above = grind (arith, nat_tests); below = omega arith }))
            hi (inl (p, q)) b (inr z) false f = let a : tag r m c ≤ tag r m y = grind (arith, nat_tests) in let o = off in omega arith
