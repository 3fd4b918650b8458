-- How the words and the links of a tree stand to each other.
use Rattle.std.proofs.Common.{ℕ, suc, ◌≡◌, ◌<◌, ◌≤◌, ◌≢◌, ◌+◌, ◌*◌, List, Bool, true, false, refl, sym, ap, ◌∙◌, arith, subst, inl, inr}
use Rattle.std.specs.Prelude.{ltb, slice_index}
use Rattle.std.proofs.Math.Nat.{mul-le-mul_left}
use Rattle.std.proofs.lemmas.Bool.Decides.{nat_tests}
use Rattle.data_tree.specs.declared.pool.Pool.{Pool}
use Rattle.data_tree.specs.Shapes.{width, tag_at, left_at, right_at, tag, top, Ranges, Used, Within, LinkOf, Names, Bounds, Holds, IsLink}

-- a cell's tag and links are apart from each other, and from those of another
cells-apart : (r : Pool) (i j a b : ℕ) → a < 3 → b < 3 → width r * i + a ≡ width r * j + b → (i ≡ j) × (a ≡ b)
cells-apart r i j a b la lb e = by (ltb i j) refl (ltb j i) refl
  where
    by : (p : Bool) → ltb i j ≡ p → (q : Bool) → ltb j i ≡ q → (i ≡ j) × (a ≡ b)
    by true p q o = let lt : suc i ≤ j = grind (arith, nat_tests) in let m = mul-le-mul_left (width r) lt in absurd (omega arith)
    by false p true o = let lt : suc j ≤ i = grind (arith, nat_tests) in let m = mul-le-mul_left (width r) lt in absurd (omega arith)
    by false p false o = let same : i ≡ j = grind (arith, nat_tests) in let m : width r * i ≡ width r * j = ap (λ z. width r * z) same in (same, omega arith)

pub left-once : (r : Pool) (i j : ℕ) → left_at r i ≡ left_at r j → i ≡ j
left-once r i j e = (cells-apart r i j 1 1 (omega arith) (omega arith) (omega arith)).0

pub right-once : (r : Pool) (i j : ℕ) → right_at r i ≡ right_at r j → i ≡ j
right-once r i j e = (cells-apart r i j 2 2 (omega arith) (omega arith) (omega arith)).0

pub sides-apart : (r : Pool) (i j : ℕ) → left_at r i ≡ right_at r j → ⊥
sides-apart r i j e = let z = (cells-apart r i j 1 2 (omega arith) (omega arith) (omega arith)).1 in absurd (omega arith)

left-no-tag : (r : Pool) (i j : ℕ) → left_at r i ≡ tag_at r j → ⊥
left-no-tag r i j e = let z = (cells-apart r i j 1 0 (omega arith) (omega arith) (omega arith)).1 in absurd (omega arith)

right-no-tag : (r : Pool) (i j : ℕ) → right_at r i ≡ tag_at r j → ⊥
right-no-tag r i j e = let z = (cells-apart r i j 2 0 (omega arith) (omega arith) (omega arith)).1 in absurd (omega arith)

pub cell-end : (r : Pool) (i : ℕ) → i < r.cells → width r * i + 3 ≤ width r * r.cells
cell-end r i lt = let le : suc i ≤ r.cells = omega arith in let m = mul-le-mul_left (width r) le in omega arith

-- the rank of a cell that the link names is this at least
abbrev pub over : (r : Pool) (m : List ℕ) (g : Ranges) (l h a : ℕ) → LinkOf r m g l h a → ℕ
over r m g l h a (inl x) = 0
over r m g l h a (inr (inl x)) = suc (g.rank x.0)
over r m g l h a (inr (inr x)) = suc (g.rank x.0)

bounds-more : (r : Pool) (m : List ℕ) (g : Ranges) (end n l : ℕ) → Bounds r m g end n l → Bounds r m g end (suc n) l
bounds-more r m g end n l (inl e) = inl e
bounds-more r m g end n l (inr (k, u, e, lt)) = inr (k, u, e, omega arith)

pub link-low : (r : Pool) (m : List ℕ) (g : Ranges) (l h a : ℕ) → Holds r m g → (x : LinkOf r m g l h a) → Bounds r m g 0 (over r m g l h a x) l
link-low r m g l h a w (inl x) = inl x.1
link-low r m g l h a w (inr (inl (i, p, q, o, u))) = subst (Bounds r m g 0 (suc (g.rank i))) (sym q) (bounds-more r m g 0 (g.rank i) (g.low i) (w.lows i u).1)
link-low r m g l h a w (inr (inr (i, p, q, o, u))) = inr (i, u, sym q, omega arith)

pub link-high : (r : Pool) (m : List ℕ) (g : Ranges) (l h a : ℕ) → Holds r m g → (x : LinkOf r m g l h a) → Bounds r m g top (over r m g l h a x) h
link-high r m g l h a w (inl x) = inl x.2
link-high r m g l h a w (inr (inl (i, p, q, o, u))) = inr (i, u, sym o, omega arith)
link-high r m g l h a w (inr (inr (i, p, q, o, u))) = subst (Bounds r m g top (suc (g.rank i))) (sym o) (bounds-more r m g top (g.rank i) (g.high i) (w.highs i u).1)

-- a range isn't empty of numbers, and ends at the top at most
pub link-order : (r : Pool) (m : List ℕ) (g : Ranges) (l h a : ℕ) → Holds r m g → LinkOf r m g l h a → l < h
link-order r m g l h a w (inl x) = let p = x.1 in let q = x.2 in omega arith
link-order r m g l h a w (inr (inl (i, p, q, o, u))) = let x = (w.lows i u).0 in omega arith
link-order r m g l h a w (inr (inr (i, p, q, o, u))) = let x = (w.highs i u).0 in omega arith

pub high-most : (r : Pool) (m : List ℕ) (g : Ranges) (l h a : ℕ) → Holds r m g → LinkOf r m g l h a → h ≤ top
high-most r m g l h a w x = by (over r m g l h a x) (link-high r m g l h a w x)
  where
    by : (n : ℕ) → Bounds r m g top n h → h ≤ top
    by n (inl e) = omega arith
    by n (inr (k, u, e, lt)) = let s = w.small k u.inside in omega arith

-- an address is that of a link of one range
pub link-one : (r : Pool) (m : List ℕ) (g : Ranges) (l h l' h' a : ℕ) → Holds r m g → LinkOf r m g l h a → LinkOf r m g l' h' a → (l ≡ l') × (h ≡ h')
link-one r m g l h l' h' a w (inl x) (inl y) = (x.1 ∙ sym y.1, x.2 ∙ sym y.2)
link-one r m g l h l' h' a w (inl x) (inr (inl (i, p, q, o, u))) = let z = x.0 in absurd (omega arith)
link-one r m g l h l' h' a w (inl x) (inr (inr (i, p, q, o, u))) = let z = x.0 in absurd (omega arith)
link-one r m g l h l' h' a w (inr (inl (i, p, q, o, u))) (inl y) = let z = y.0 in absurd (omega arith)
link-one r m g l h l' h' a w (inr (inr (i, p, q, o, u))) (inl y) = let z = y.0 in absurd (omega arith)
link-one r m g l h l' h' a w (inr (inl (i, p, q, o, u))) (inr (inl (i', p', q', o', u'))) = let e = left-once r i i' (sym p ∙ p') in (q ∙ (ap g.low e ∙ sym q'), o ∙ (ap (tag r m) e ∙ sym o'))
link-one r m g l h l' h' a w (inr (inl (i, p, q, o, u))) (inr (inr (i', p', q', o', u'))) = absurd (sides-apart r i i' (sym p ∙ p'))
link-one r m g l h l' h' a w (inr (inr (i, p, q, o, u))) (inr (inl (i', p', q', o', u'))) = absurd (sides-apart r i' i (sym p' ∙ p))
link-one r m g l h l' h' a w (inr (inr (i, p, q, o, u))) (inr (inr (i', p', q', o', u'))) = let e = right-once r i i' (sym p ∙ p') in (q ∙ (ap (tag r m) e ∙ sym q'), o ∙ (ap g.high e ∙ sym o'))

-- the left link of i and the right link of k have not the same range: each would be above the other
sides-differ : (r : Pool) (m : List ℕ) (g : Ranges) (i k : ℕ) → Holds r m g → Used r m i → Used r m k → g.low i ≡ tag r m k → tag r m i ≡ g.high k → ⊥
sides-differ r m g i k w u v e f = by (w.lows i u).1 (w.highs k v).1
  where
    by : Bounds r m g 0 (g.rank i) (g.low i) → Bounds r m g top (g.rank k) (g.high k) → ⊥
    by (inl z) b = let p = v.pos in absurd (omega arith)
    by (inr x) (inl z) = let s = w.small i u.inside in absurd (omega arith)
    by (inr (a, ua, ea, la)) (inr (b, ub, eb, lb)) =
        let p : a ≡ k = w.differ a k ua v (ea ∙ e) in
        let q : b ≡ i = w.differ b i ub u (eb ∙ sym f) in
        let x : g.rank a ≡ g.rank k = ap g.rank p in
        let y : g.rank b ≡ g.rank i = ap g.rank q in absurd (omega arith)

-- a range is that of one link
pub link-same : (r : Pool) (m : List ℕ) (g : Ranges) (l h a d : ℕ) → Holds r m g → LinkOf r m g l h a → LinkOf r m g l h d → a ≡ d
link-same r m g l h a d w (inl x) (inl y) = x.0 ∙ sym y.0
link-same r m g l h a d w (inl x) (inr (inl (i, p, q, o, u))) = let s = w.small i u.inside in let z = x.2 in absurd (omega arith)
link-same r m g l h a d w (inl x) (inr (inr (i, p, q, o, u))) = let s = u.pos in let z = x.1 in absurd (omega arith)
link-same r m g l h a d w (inr (inl (i, p, q, o, u))) (inl y) = let s = w.small i u.inside in let z = y.2 in absurd (omega arith)
link-same r m g l h a d w (inr (inr (i, p, q, o, u))) (inl y) = let s = u.pos in let z = y.1 in absurd (omega arith)
link-same r m g l h a d w (inr (inl (i, p, q, o, u))) (inr (inl (i', p', q', o', u'))) = let e = w.differ i i' u u' (sym o ∙ o') in p ∙ (ap (left_at r) e ∙ sym p')
link-same r m g l h a d w (inr (inl (i, p, q, o, u))) (inr (inr (i', p', q', o', u'))) = absurd (sides-differ r m g i i' w u u' (sym q ∙ q') (sym o ∙ o'))
link-same r m g l h a d w (inr (inr (i, p, q, o, u))) (inr (inl (i', p', q', o', u'))) = absurd (sides-differ r m g i' i w u' u (sym q' ∙ q) (sym o' ∙ o))
link-same r m g l h a d w (inr (inr (i, p, q, o, u))) (inr (inr (i', p', q', o', u'))) = let e = w.differ i i' u u' (sym q ∙ q') in p ∙ (ap (right_at r) e ∙ sym p')

-- a range that ends inside another has a cell there
low-not : (r : Pool) (m : List ℕ) (g : Ranges) (l h n l' : ℕ) → Bounds r m g 0 n l' → ((i : ℕ) → Within r m l h i → ⊥) → l < l' → l' < h → ⊥
low-not r m g l h n l' (inl e) gap lt lt' = absurd (omega arith)
low-not r m g l h n l' (inr (k, u, e, x)) gap lt lt' = gap k (record { inside = u.inside; above = omega arith; below = omega arith })

high-not : (r : Pool) (m : List ℕ) (g : Ranges) (l h n h' : ℕ) → Bounds r m g top n h' → ((i : ℕ) → Within r m l h i → ⊥) → h ≤ top → l < h' → h' < h → ⊥
high-not r m g l h n h' (inl e) gap le lt lt' = absurd (omega arith)
high-not r m g l h n h' (inr (k, u, e, x)) gap le lt lt' = gap k (record { inside = u.inside; above = omega arith; below = omega arith })

-- two empty links whose ranges have a number in common are one
pub same-gap : (r : Pool) (m : List ℕ) (g : Ranges) (l h l' h' t a d : ℕ) → Holds r m g → LinkOf r m g l h a → LinkOf r m g l' h' d → slice_index m a ≡ 0 → slice_index m d ≡ 0
    → l < t → t < h → l' < t → t < h' → a ≡ d
same-gap r m g l h l' h' t a d w x y za zd a1 a2 b1 b2 = by (ltb l l') refl (ltb l' l) refl (ltb h h') refl (ltb h' h) refl
  where
    gap : (i : ℕ) → Within r m l h i → ⊥
    gap = subst (Names r m g l h) za (w.names l h a x)

    gap' : (i : ℕ) → Within r m l' h' i → ⊥
    gap' = subst (Names r m g l' h') zd (w.names l' h' d y)

    by : (p : Bool) → ltb l l' ≡ p → (q : Bool) → ltb l' l ≡ q → (s : Bool) → ltb h h' ≡ s → (o : Bool) → ltb h' h ≡ o → a ≡ d
    by true e q f s i o j = absurd (low-not r m g l h _ l' (link-low r m g l' h' d w y) gap (grind (arith, nat_tests)) (omega arith))
    by false e true f s i o j = absurd (low-not r m g l' h' _ l (link-low r m g l h a w x) gap' (grind (arith, nat_tests)) (omega arith))
    by false e false f true i o j = absurd (high-not r m g l' h' _ h (link-high r m g l h a w x) gap' (high-most r m g l' h' d w y) (omega arith) (grind (arith, nat_tests)))
    by false e false f false i true j = absurd (high-not r m g l h _ h' (link-high r m g l' h' d w y) gap (high-most r m g l h a w x) (omega arith) (grind (arith, nat_tests)))
    by false e false f false i false j =
        let lo : l' ≡ l = grind (arith, nat_tests) in
        let hi : h' ≡ h = grind (arith, nat_tests) in
        link-same r m g l h a d w x (subst (λ z. LinkOf r m g z h d) lo (subst (λ z. LinkOf r m g l' z d) hi y))

pub link-inside : (r : Pool) (m : List ℕ) (g : Ranges) (l h a : ℕ) → LinkOf r m g l h a → ((j : ℕ) → a ≢ tag_at r j) × (a < r.at + 1 + width r * r.cells)
link-inside r m g l h a (inl x) = let p = x.0 in ((λ j e. absurd (omega arith)), omega arith)
link-inside r m g l h a (inr (inl (i, p, q, o, u))) = let lt = cell-end r i u.inside in ((λ j e. left-no-tag r i j (sym p ∙ e)), omega arith)
link-inside r m g l h a (inr (inr (i, p, q, o, u))) = let lt = cell-end r i u.inside in ((λ j e. right-no-tag r i j (sym p ∙ e)), omega arith)

-- a link isn't in a free cell
pub link-used : (r : Pool) (m : List ℕ) (g : Ranges) (l h a c : ℕ) → LinkOf r m g l h a → tag r m c ≡ 0 → (a ≢ left_at r c) × (a ≢ right_at r c)
link-used r m g l h a c (inl x) z = let p = x.0 in ((λ e. absurd (omega arith)), (λ e. absurd (omega arith)))
link-used r m g l h a c (inr (inl (i, p, q, o, u))) z =
    ((λ e. let t : tag r m i ≡ tag r m c = ap (tag r m) (left-once r i c (sym p ∙ e)) in let y = u.pos in absurd (omega arith)), (λ e. sides-apart r i c (sym p ∙ e)))
link-used r m g l h a c (inr (inr (i, p, q, o, u))) z =
    ((λ e. sides-apart r c i (sym e ∙ p)), (λ e. let t : tag r m i ≡ tag r m c = ap (tag r m) (right-once r i c (sym p ∙ e)) in let y = u.pos in absurd (omega arith)))

-- two empty links whose ranges begin, or end, at one number are one
pub same-low : (r : Pool) (m : List ℕ) (g : Ranges) (l h h' a d : ℕ) → Holds r m g → LinkOf r m g l h a → LinkOf r m g l h' d → slice_index m a ≡ 0 → slice_index m d ≡ 0 → a ≡ d
same-low r m g l h h' a d w x y za zd = by (ltb h h') refl (ltb h' h) refl
  where
    gap : (i : ℕ) → Within r m l h i → ⊥
    gap = subst (Names r m g l h) za (w.names l h a x)

    gap' : (i : ℕ) → Within r m l h' i → ⊥
    gap' = subst (Names r m g l h') zd (w.names l h' d y)

    by : (s : Bool) → ltb h h' ≡ s → (o : Bool) → ltb h' h ≡ o → a ≡ d
    by true i o j = absurd (high-not r m g l h' _ h (link-high r m g l h a w x) gap' (high-most r m g l h' d w y) (link-order r m g l h a w x) (grind (arith, nat_tests)))
    by false i true j = absurd (high-not r m g l h _ h' (link-high r m g l h' d w y) gap (high-most r m g l h a w x) (link-order r m g l h' d w y) (grind (arith, nat_tests)))
    by false i false j = let hi : h' ≡ h = grind (arith, nat_tests) in link-same r m g l h a d w x (subst (λ z. LinkOf r m g l z d) hi y)

pub same-high : (r : Pool) (m : List ℕ) (g : Ranges) (l l' h a d : ℕ) → Holds r m g → LinkOf r m g l h a → LinkOf r m g l' h d → slice_index m a ≡ 0 → slice_index m d ≡ 0 → a ≡ d
same-high r m g l l' h a d w x y za zd = by (ltb l l') refl (ltb l' l) refl
  where
    gap : (i : ℕ) → Within r m l h i → ⊥
    gap = subst (Names r m g l h) za (w.names l h a x)

    gap' : (i : ℕ) → Within r m l' h i → ⊥
    gap' = subst (Names r m g l' h) zd (w.names l' h d y)

    by : (s : Bool) → ltb l l' ≡ s → (o : Bool) → ltb l' l ≡ o → a ≡ d
    by true i o j = absurd (low-not r m g l h _ l' (link-low r m g l' h d w y) gap (grind (arith, nat_tests)) (link-order r m g l' h d w y))
    by false i true j = absurd (low-not r m g l' h _ l (link-low r m g l h a w x) gap' (grind (arith, nat_tests)) (link-order r m g l h a w x))
    by false i false j = let lo : l' ≡ l = grind (arith, nat_tests) in link-same r m g l h a d w x (subst (λ z. LinkOf r m g z h d) lo y)

-- EACH CELL IS NAMED ONCE: two links that name one cell are one
pub named-once : (r : Pool) (m : List ℕ) (g : Ranges) (a d j : ℕ) → Holds r m g → IsLink r m a → IsLink r m d → slice_index m a ≡ suc j → slice_index m d ≡ suc j → a ≡ d
named-once r m g a d j w x y e f =
    let p = range-of a x in
    let q = range-of d y in
    let n : Names r m g p.0 p.1 (suc j) = subst (Names r m g p.0 p.1) e (w.names p.0 p.1 a p.2) in
    let o : Names r m g q.0 q.1 (suc j) = subst (Names r m g q.0 q.1) f (w.names q.0 q.1 d q.2) in
    link-same r m g p.0 p.1 a d w p.2 (subst (λ z. LinkOf r m g z p.1 d) (sym o.1 ∙ n.1) (subst (λ z. LinkOf r m g q.0 z d) (sym o.2 ∙ n.2) q.2))
  where
    range-of : (b : ℕ) → IsLink r m b → (l : ℕ) × (h : ℕ) × LinkOf r m g l h b
    range-of b (inl x) = (0, top, inl (x, refl, refl))
    range-of b (inr (i, u, inl x)) = (g.low i, tag r m i, inr (inl (i, x, refl, refl, u)))
    range-of b (inr (i, u, inr x)) = (tag r m i, g.high i, inr (inr (i, x, refl, refl, u)))
