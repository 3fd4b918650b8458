-- The mending makes right the sums that are off by d on the path to a key.
use Rattle.std.proofs.Common.{ℕ, zero, suc, ◌≡◌, ◌<◌, ◌≤◌, ◌≢◌, ◌+◌, ◌*◌, ◌%◌, ◌^◌, List, length, get_or, Bool, true, false, refl, sym, ap, ◌∙◌, arith, subst, inl, inr}
use Rattle.std.specs.Prelude.{◌⊎◌, ◌==◌, ltb, if◌then◌else◌, slice_index}
use Rattle.std.proofs.Math.ListN.{length-set}
use Rattle.std.proofs.lemmas.List.{get_or-set_same, get_or-set_other}
use Rattle.std.proofs.lemmas.Bool.Decides.{nat_tests}
use Rattle.data_effects.specs.Keys.{how_many}
use Rattle.data_effects.proofs.KeyLaws.{how_many-most}
use Rattle.data_tree.specs.Shapes.{Ranges, Within, LinkOf, Names}
use Rattle.data_tree.proofs.ShapeWalks.{is_within, left, left-less, named-used, left-link, right-link}
use Rattle.data_sums.specs.declared.sum_map.SumMap.{SumMap}
use Rattle.data_sums.specs.Sums.{pool, tag_at, left_at, right_at, value_at, sum_at, tag, value, Used, Holds, side_at, raised, mended_by, mended}
use Rattle.data_sums.proofs.SumTrees.{Tree, due, holds-of, same-tree, same-link, same-used-old, within-same}

-- the range of a cell in a link's range is a part of it
pub nest : (r : SumMap) (m : List ℕ) (g : Ranges) (n l h a i : ℕ) → Tree r m g → LinkOf (pool r) m g l h a → left (pool r) m l h ≤ n → Within (pool r) m l h i → (l ≤ g.low i) × (g.high i ≤ h)
nest r m g zero l h a i w k le y = by (slice_index m a) (w.shape.names l h a k)
  where
    by : (v : ℕ) → Names (pool r) m g l h v → (l ≤ g.low i) × (g.high i ≤ h)
    by zero z = absurd (z i y)
    by (suc j) z = let x = left-less (pool r) m l h l l j z.0 (omega arith) (let p = z.0.above in let q = z.0.below in omega arith) (inr (let p = z.0.above in omega arith)) in absurd (omega arith)
nest r m g (suc n) l h a i w k le y = by (slice_index m a) (w.shape.names l h a k)
    (λ j z lt. nest r m g n l (tag r m j) (left_at r j) i w (left-link (pool r) m g l h j z)
    (let x = left-less (pool r) m l h l (tag r m j) j z.0 (omega arith) (let b = z.0.below in omega arith) (inr (omega arith)) in omega arith) (record { inside = y.inside; above = y.above; below = lt }))
    (λ j z lt. nest r m g n (tag r m j) h (right_at r j) i w (right-link (pool r) m g l h j z)
    (let x = left-less (pool r) m l h (tag r m j) h j z.0 (let b = z.0.above in omega arith) (omega arith) (inl (omega arith)) in omega arith) (record { inside = y.inside; above = lt; below = y.below }))
  where
    by : (v : ℕ) → Names (pool r) m g l h v
        → ((j : ℕ) → Names (pool r) m g l h (suc j) → tag r m i < tag r m j → (l ≤ g.low i) × (g.high i ≤ tag r m j))
        → ((j : ℕ) → Names (pool r) m g l h (suc j) → tag r m j < tag r m i → (tag r m j ≤ g.low i) × (g.high i ≤ h))
        → (l ≤ g.low i) × (g.high i ≤ h)
    by zero z lefts rights = absurd (z i y)
    by (suc j) z lefts rights = at (ltb (tag r m i) (tag r m j)) refl (ltb (tag r m j) (tag r m i)) refl
      where
        at : (s : Bool) → ltb (tag r m i) (tag r m j) ≡ s → (t : Bool) → ltb (tag r m j) (tag r m i) ≡ t → (l ≤ g.low i) × (g.high i ≤ h)
        at true p t q = let x = lefts j z (grind (arith, nat_tests)) in let x0 = x.0 in let x1 = x.1 in let b = z.0.below in (x0, omega arith)
        at false p true q = let x = rights j z (grind (arith, nat_tests)) in let x0 = x.0 in let x1 = x.1 in let b = z.0.above in (omega arith, x1)
        at false p false q =
            let e : tag r m i ≡ tag r m j = grind (arith, nat_tests) in
            let ij : i ≡ j = w.shape.differ i j (record { inside = y.inside; pos = (let b = y.above in omega arith) }) (named-used (pool r) m g l h j z) e in
            let lo : g.low i ≡ l = ap g.low ij ∙ z.1 in
            let hi : g.high i ≡ h = ap g.high ij ∙ z.2 in
            (omega arith, omega arith)

-- the sums of the cells between l and h that have t in their range are off by d, the others are right
pub record Broken (r : SumMap) (m : List ℕ) (g : Ranges) (t d l h : ℕ) : Type 0 where
  pub broken : (i : ℕ) → Used r m i → g.low i < t → t < g.high i → l < tag r m i → tag r m i < h → (slice_index m (sum_at r i) + d) % 2 ^ 64 ≡ due r m g i
  pub right : (i : ℕ) → Used r m i → (g.low i < t → t < g.high i → l < tag r m i → tag r m i < h → ⊥) → slice_index m (sum_at r i) ≡ due r m g i

how_many-alike : (r : SumMap) (m k : List ℕ) (l h n : ℕ) → ((i : ℕ) → tag r k i ≡ tag r m i) → how_many (is_within (pool r) k l h) n ≡ how_many (is_within (pool r) m l h) n
how_many-alike r m k l h zero s = refl
how_many-alike r m k l h (suc n) s = let e = how_many-alike r m k l h n s in let t = s n in rw (t, e) refl

-- A STEP: the link a names the cell j
module _ (r : SumMap) (m : List ℕ) (g : Ranges) (t d l h a j : ℕ) (w : Tree r m g) (k : LinkOf (pool r) m g l h a)
    (z : Names (pool r) m g l h (suc j)) (lo : l < t) (hi : t < h) (room : r.at + 1 + 5 * r.cells ≤ length m)
    (b : Broken r m g t d l h) where
  abbrev y : List ℕ
  y = raised r d j m

  uj : Used r m j
  uj = named-used (pool r) m g l h j z

  y-other : (x : ℕ) → x ≢ sum_at r j → get_or y x 0 ≡ get_or m x 0
  y-other x e = get_or-set_other m (sum_at r j) x _ 0 e

  pub y-tags : (i : ℕ) → tag r (raised r d j m) i ≡ tag r m i
  y-tags i = y-other (tag_at r i) (λ e. absurd (omega arith))

  y-values : (i : ℕ) → value r y i ≡ value r m i
  y-values i = y-other (value_at r i) (λ e. absurd (omega arith))

  y-lefts : (i : ℕ) → slice_index y (left_at r i) ≡ slice_index m (left_at r i)
  y-lefts i = y-other (left_at r i) (λ e. absurd (omega arith))

  y-rights : (i : ℕ) → slice_index y (right_at r i) ≡ slice_index m (right_at r i)
  y-rights i = y-other (right_at r i) (λ e. absurd (omega arith))

  y-root : slice_index y r.at ≡ slice_index m r.at
  y-root = y-other r.at (λ e. absurd (omega arith))

  y-sums : (i : ℕ) → i ≢ j → slice_index y (sum_at r i) ≡ slice_index m (sum_at r i)
  y-sums i d = y-other (sum_at r i) (λ e. d (omega arith))

  y-spares : (i : ℕ) → i < r.cells → tag r m i ≡ 0 → (value r y i ≡ 0) × (slice_index y (sum_at r i) ≡ 0)
  y-spares i lt e = let s = w.bare i lt e in (y-values i ∙ s.0, y-sums i (λ q. (let x : tag r m i ≡ tag r m j = ap (tag r m) q in let p = uj.pos in absurd (omega arith))) ∙ s.1)

  pub y-tree : Tree r (raised r d j m) g
  y-tree = same-tree r m y g w y-root y-tags y-lefts y-rights y-spares

  pub y-left : LinkOf (pool r) (raised r d j m) g l (tag r m j) (left_at r j)
  y-left = same-link r m y g w y-root y-tags y-lefts y-rights y-spares l (tag r m j) (left_at r j) (left-link (pool r) m g l h j z)

  pub y-right : LinkOf (pool r) (raised r d j m) g (tag r m j) h (right_at r j)
  y-right = same-link r m y g w y-root y-tags y-lefts y-rights y-spares (tag r m j) h (right_at r j) (right-link (pool r) m g l h j z)

  old : (i : ℕ) → Used r y i → Used r m i
  old i u = same-used-old r m y g w y-root y-tags y-lefts y-rights y-spares i u

  dues : (i : ℕ) → due r y g i ≡ due r m g i
  dues i = ap (λ x. x % 2 ^ 64) (within-same r m y (g.low i) (g.high i) r.cells (λ i lt. (y-tags i, y-values i)))

  fixed : slice_index y (sum_at r j) ≡ due r y g j
  fixed = get_or-set_same m (sum_at r j) _ 0 (let lt = z.0.inside in omega arith) ∙ (b.broken j uj (subst (λ x. x < t) (sym z.1) lo) (subst (λ x. t < x) (sym z.2) hi) z.0.above z.0.below ∙ sym (dues j))

  -- a cell in the link's range, beside j
  side-of : (i : ℕ) → Used r m i → i ≢ j → l < tag r m i → tag r m i < h → ((tag r m i < tag r m j) × (g.high i ≤ tag r m j)) ⊎ ((tag r m j < tag r m i) × (tag r m j ≤ g.low i))
  side-of i u d p q = at (ltb (tag r m i) (tag r m j)) refl (ltb (tag r m j) (tag r m i)) refl
    where
      at : (s : Bool) → ltb (tag r m i) (tag r m j) ≡ s → (t : Bool) → ltb (tag r m j) (tag r m i) ≡ t → ((tag r m i < tag r m j) × (g.high i ≤ tag r m j)) ⊎ ((tag r m j < tag r m i) × (tag r m j ≤ g.low i))
      at true e t f = let lt : tag r m i < tag r m j = grind (arith, nat_tests) in
          inl (lt, (nest r m g r.cells l (tag r m j) (left_at r j) i w (left-link (pool r) m g l h j z) (how_many-most _ r.cells) (record { inside = u.inside; above = p; below = lt })).1)
      at false e true f = let lt : tag r m j < tag r m i = grind (arith, nat_tests) in
          inr (lt, (nest r m g r.cells (tag r m j) h (right_at r j) i w (right-link (pool r) m g l h j z) (how_many-most _ r.cells) (record { inside = u.inside; above = lt; below = q })).0)
      at false e false f = let s : tag r m i ≡ tag r m j = grind (arith, nat_tests) in absurd (d (w.shape.differ i j u uj s))

  -- a cell beside j is right where the rest says so
  beside : (i : ℕ) → Used r y i → ((i ≢ j) → g.low i < t → t < g.high i → l < tag r m i → tag r m i < h → ⊥) → slice_index y (sum_at r i) ≡ due r y g i
  beside i u out = at (i == j) refl
    where
      at : (s : Bool) → (i == j) ≡ s → slice_index y (sum_at r i) ≡ due r y g i
      at true e = let q : i ≡ j = grind (arith, nat_tests) in subst (λ x. slice_index y (sum_at r x) ≡ due r y g x) (sym q) fixed
      at false e = let q : i ≢ j = grind (arith, nat_tests) in y-sums i q ∙ (b.right i (old i u) (out q) ∙ sym (dues i))

  pub mends-here : tag r m j ≡ t → Holds r (raised r d j m) g
  mends-here e = holds-of r y g y-tree (λ i u. beside i u (λ n p q x v. by i p q (side-of i (old i u) n x v)))
    where
      by : (i : ℕ) → g.low i < t → t < g.high i → ((tag r m i < tag r m j) × (g.high i ≤ tag r m j)) ⊎ ((tag r m j < tag r m i) × (tag r m j ≤ g.low i)) → ⊥
      by i p q (inl s) = let s1 = s.1 in absurd (omega arith)
      by i p q (inr s) = let s1 = s.1 in absurd (omega arith)

  off-by : (i : ℕ) → Used r y i → i ≢ j → g.low i < t → t < g.high i → l < tag r m i → tag r m i < h → (slice_index y (sum_at r i) + d) % 2 ^ 64 ≡ due r y g i
  off-by i u n p q x v = ap (λ s. (s + d) % 2 ^ 64) (y-sums i n) ∙ (b.broken i (old i u) p q x v ∙ sym (dues i))

  pub mends-left : t < tag r m j → Broken r (raised r d j m) g t d l (tag r m j)
  mends-left lt = record {
    broken = λ i u p q x v. let e = y-tags i in let f = z.0.below in off-by i u (λ s. (let y : tag r m i ≡ tag r m j = ap (tag r m) s in absurd (omega arith))) p q (omega arith) (omega arith);
    right = λ i u out. beside i u (λ n p q x v. by i p q x (λ p q x v. out p q (let e = y-tags i in omega arith) (let e = y-tags i in omega arith)) (side-of i (old i u) n x v));
  }
    where
      by : (i : ℕ) → g.low i < t → t < g.high i → l < tag r m i → (g.low i < t → t < g.high i → l < tag r m i → tag r m i < tag r m j → ⊥)
          → ((tag r m i < tag r m j) × (g.high i ≤ tag r m j)) ⊎ ((tag r m j < tag r m i) × (tag r m j ≤ g.low i)) → ⊥
      by i p q x out (inl s) = out p q x s.0
      by i p q x out (inr s) = let s1 = s.1 in absurd (omega arith)

  pub mends-right : tag r m j < t → Broken r (raised r d j m) g t d (tag r m j) h
  mends-right lt = record {
    broken = λ i u p q x v. let e = y-tags i in let f = z.0.above in off-by i u (λ s. (let y : tag r m i ≡ tag r m j = ap (tag r m) s in absurd (omega arith))) p q (omega arith) (omega arith);
    right = λ i u out. beside i u (λ n p q x v. by i p q v (λ p q x v. out p q (let e = y-tags i in omega arith) (let e = y-tags i in omega arith)) (side-of i (old i u) n x v));
  }
    where
      by : (i : ℕ) → g.low i < t → t < g.high i → tag r m i < h → (g.low i < t → t < g.high i → tag r m j < tag r m i → tag r m i < h → ⊥)
          → ((tag r m i < tag r m j) × (g.high i ≤ tag r m j)) ⊎ ((tag r m j < tag r m i) × (tag r m j ≤ g.low i)) → ⊥
      by i p q v out (inl s) = let s1 = s.1 in absurd (omega arith)
      by i p q v out (inr s) = out p q s.0 v

  pub y-count : (x v : ℕ) → left (pool r) (raised r d j m) x v ≡ left (pool r) m x v
  y-count x v = how_many-alike r m y x v r.cells y-tags

-- THE WALK
pub mended-holds : (r : SumMap) (g : Ranges) (key d n l h a : ℕ) (m : List ℕ) → Tree r m g → LinkOf (pool r) m g l h a → l ≤ key
    → suc key < h → left (pool r) m l h ≤ n → r.at + 1 + 5 * r.cells ≤ length m → Broken r m g (suc key) d l h
    → Holds r (mended r key d n a m) g
mended-holds r g key d zero l h a m w k lo hi le room b = by (slice_index m a) (w.shape.names l h a k)
  where
    by : (v : ℕ) → Names (pool r) m g l h v → Holds r m g
    by zero z = holds-of r m g w (λ i u. b.right i u (λ p q x v. z i (record { inside = u.inside; above = x; below = v })))
    by (suc j) z = let x = left-less (pool r) m l h l l j z.0 (omega arith) (let p = z.0.above in let q = z.0.below in omega arith) (inr (let p = z.0.above in omega arith)) in absurd (omega arith)
mended-holds r g key d (suc n) l h a m w k lo hi le room b = by (slice_index m a) (w.shape.names l h a k)
    (λ j z gt. let lt : l < suc key = omega arith in let kl : length (raised r d j m) ≡ length m = simp length-set in
    mended-holds r g key d n l (tag r m j) (left_at r j) (raised r d j m) (y-tree r m g (suc key) d l h a j w k z lt hi room b) (y-left r m g (suc key) d l h a j w k z lt hi room b) lo gt
    (let x = left-less (pool r) m l h l (tag r m j) j z.0 (omega arith) (let b = z.0.below in omega arith) (inr (omega arith)) in
    let e = y-count r m g (suc key) d l h a j w k z lt hi room b l (tag r m j) in omega arith) (omega arith)
    (mends-left r m g (suc key) d l h a j w k z lt hi room b gt))
    (λ j z gt. let lt : l < suc key = omega arith in let kl : length (raised r d j m) ≡ length m = simp length-set in
    mended-holds r g key d n (tag r m j) h (right_at r j) (raised r d j m) (y-tree r m g (suc key) d l h a j w k z lt hi room b) (y-right r m g (suc key) d l h a j w k z lt hi room b) gt hi
    (let x = left-less (pool r) m l h (tag r m j) h j z.0 (let b = z.0.above in omega arith) (omega arith) (inl (omega arith)) in
    let e = y-count r m g (suc key) d l h a j w k z lt hi room b (tag r m j) h in omega arith) (omega arith)
    (mends-right r m g (suc key) d l h a j w k z lt hi room b (omega arith)))
  where
    by : (v : ℕ) → Names (pool r) m g l h v
        → ((j : ℕ) → Names (pool r) m g l h (suc j) → suc key < tag r m j → Holds r (mended r key d n (left_at r j) (raised r d j m)) g)
        → ((j : ℕ) → Names (pool r) m g l h (suc j) → tag r m j ≤ key → Holds r (mended r key d n (right_at r j) (raised r d j m)) g)
        → Holds r (mended_by (λ j. if tag r m j == suc key then raised r d j m else mended r key d n (side_at r m key j) (raised r d j m)) m v) g
    by zero z lefts rights = holds-of r m g w (λ i u. b.right i u (λ p q x v. z i (record { inside = u.inside; above = x; below = v })))
    by (suc j) z lefts rights = here (tag r m j == suc key) refl (ltb key (tag r m j)) refl
      where
        here : (s : Bool) → (tag r m j == suc key) ≡ s → (u : Bool) → ltb key (tag r m j) ≡ u
            → Holds r (if s then raised r d j m else mended r key d n (if u then left_at r j else right_at r j) (raised r d j m)) g
        here true e u f = mends-here r m g (suc key) d l h a j w k z (omega arith) hi room b (grind (arith, nat_tests))
        here false e true f = lefts j z (let d : tag r m j ≢ suc key = grind (arith, nat_tests) in let c : key < tag r m j = grind (arith, nat_tests) in omega arith)
        here false e false f = rights j z (grind (arith, nat_tests))
