-- A leaf attached keeps a tree's shape.
use Rattle.std.proofs.Common.{ℕ, zero, suc, ◌≡◌, ◌<◌, ◌≤◌, ◌≢◌, List, get_or, Bool, true, false, refl, sym, ap, ◌∙◌, arith, subst, inl, inr}
use Rattle.std.specs.Prelude.{◌⊎◌, ◌==◌, if◌then◌else◌, slice_index}
use Rattle.std.proofs.lemmas.Bool.Decides.{nat_tests}
use Rattle.data_effects.specs.declared.position.Position.{Position}
use Rattle.data_tree.specs.declared.pool.Pool.{Pool}
use Rattle.data_tree.specs.Shapes.{left_at, right_at, tag, top, Ranges, Used, Within, LinkOf, Names, Bounds, Holds}
use Rattle.data_tree.proofs.ShapeWalks.{Found}
use Rattle.data_tree.proofs.ShapeOrder.{over, link-low, link-high, link-one, same-gap, high-most}

-- A LEAF ATTACHED. k is m with the key in the free cell c, at the position of the key, which was empty
module _ (r : Pool) (m k : List ℕ) (g n : Ranges) (key c : ℕ) (s : Position) (w : Holds r m g) (f : Found r m g key s) (empty : s.next ≡ 0) (inside : c < r.cells) (free : tag r m c ≡ 0)
    (absent : (i : ℕ) → i < r.cells → tag r m i ≢ suc key)
    (others : (i : ℕ) → i ≢ c → tag r k i ≡ tag r m i) (new : tag r k c ≡ suc key)
    (words : (l h a : ℕ) → LinkOf r m g l h a → a ≢ s.link → slice_index k a ≡ slice_index m a)
    (at : slice_index k s.link ≡ suc c)
    (spares : (i : ℕ) → i < r.cells → tag r m i ≡ 0 → (slice_index k (left_at r i) ≡ 0) × (slice_index k (right_at r i) ≡ 0))
    (ranges : (i : ℕ) → i ≢ c → (n.low i ≡ g.low i) × (n.high i ≡ g.high i) × (n.rank i ≡ g.rank i))
    (with_range : (n.low c ≡ f.low) × (n.high c ≡ f.high) × (n.rank c ≡ over r m g f.low f.high s.link f.link)) where
  gap : (i : ℕ) → Within r m f.low f.high i → ⊥
  gap = subst (Names r m g f.low f.high) (f.word ∙ empty) (w.names f.low f.high s.link f.link)

  not-c : (i : ℕ) → 0 < tag r m i → i ≢ c
  not-c i lt e = let t : tag r m i ≡ tag r m c = ap (tag r m) e in absurd (omega arith)

  used-new : (i : ℕ) → Used r m i → Used r k i
  used-new i u = let t = others i (not-c i u.pos) in record { inside = u.inside; pos = subst (λ x. 0 < x) (sym t) u.pos }

  used-old : (i : ℕ) → i ≢ c → Used r k i → Used r m i
  used-old i d u = record { inside = u.inside; pos = subst (λ x. 0 < x) (others i d) u.pos }

  within-old : (l h i : ℕ) → i ≢ c → Within r k l h i → Within r m l h i
  within-old l h i d x = let t = others i d in record { inside = x.inside; above = subst (λ y. l < y) t x.above; below = subst (λ y. y < h) t x.below }

  bounds-new : (end p l : ℕ) → Bounds r m g end p l → Bounds r k n end p l
  bounds-new end p l (inl e) = inl e
  bounds-new end p l (inr (i, u, e, lt)) = let d = not-c i u.pos in inr (i, used-new i u, others i d ∙ e, subst (λ x. x < p) (sym (ranges i d).2) lt)

  -- a word still names its cell, and an empty range is still empty, if the key isn't in it
  names-new : (l h v : ℕ) → Names r m g l h v → (v ≡ 0 → l ≤ key → suc key < h → ⊥) → Names r k n l h v
  names-new l h zero x out = λ i y. by i y (i == c) refl
    where
      by : (i : ℕ) → Within r k l h i → (t : Bool) → (i == c) ≡ t → ⊥
      by i y true q = let e : tag r k i ≡ suc key = ap (tag r k) (grind (arith, nat_tests)) ∙ new in let a = y.above in let b = y.below in out refl (omega arith) (omega arith)
      by i y false q = x i (within-old l h i (grind (arith, nat_tests)) y)
  names-new l h (suc j) x out = let d = not-c j (let a = x.0.above in omega arith) in let t = others j d in let q = ranges j d in
      (record { inside = x.0.inside; above = subst (λ y. l < y) (sym t) x.0.above; below = subst (λ y. y < h) (sym t) x.0.below }, q.0 ∙ x.1, q.1 ∙ x.2)

  own-names : (l h : ℕ) → f.low ≤ l → h ≤ f.high → (l ≡ suc key) ⊎ (h ≡ suc key) → Names r k n l h 0
  own-names l h a b o i y = by (i == c) refl o
    where
      by : (t : Bool) → (i == c) ≡ t → (l ≡ suc key) ⊎ (h ≡ suc key) → ⊥
      by true q (inl e) = let t : tag r k i ≡ suc key = ap (tag r k) (grind (arith, nat_tests)) ∙ new in let x = y.above in absurd (omega arith)
      by true q (inr e) = let t : tag r k i ≡ suc key = ap (tag r k) (grind (arith, nat_tests)) ∙ new in let x = y.below in absurd (omega arith)
      by false q o = let z = within-old l h i (grind (arith, nat_tests)) y in gap i (record { inside = z.inside; above = (let x = z.above in omega arith); below = (let x = z.below in omega arith) })

  old-names : (l h a : ℕ) → LinkOf r m g l h a → Names r k n l h (slice_index k a)
  old-names l h a x = by (a == s.link) refl
    where
      by : (t : Bool) → (a == s.link) ≡ t → Names r k n l h (slice_index k a)
      by true q =
          let e : a ≡ s.link = grind (arith, nat_tests) in
          let o = link-one r m g l h f.low f.high a w x (subst (LinkOf r m g f.low f.high) (sym e) f.link) in
          let v : slice_index k a ≡ suc c = ap (λ y. get_or k y 0) e ∙ at in
          let lo = f.above in let hi = f.below in
          rw (o.0, o.1, v) (record { inside = inside; above = omega arith; below = omega arith }, with_range.0, with_range.1)
      by false q =
          let d : a ≢ s.link = grind (arith, nat_tests) in
          rw (words l h a x d) (names-new l h (slice_index m a) (w.names l h a x)
          (λ z lo hi. d (same-gap r m g l h f.low f.high (suc key) a s.link w x f.link z (f.word ∙ empty) (omega arith) hi (let y = f.above in omega arith) f.below)))

  pub attach-keeps : Holds r k n
  attach-keeps = record {
    names = names;
    lows = λ i u. lows i u (i == c) refl;
    highs = λ i u. highs i u (i == c) refl;
    differ = λ i j u v e. differ i j u v e (i == c) refl (j == c) refl;
    spare = λ i lt z. let d : i ≢ c = λ e. (let t : tag r k i ≡ tag r k c = ap (tag r k) e in absurd (omega arith)) in let t = others i d in spares i lt (omega arith);
    small = λ i lt. small i lt (i == c) refl;
  }
    where
      names : (l h a : ℕ) → LinkOf r k n l h a → Names r k n l h (slice_index k a)
      names l h a (inl x) = old-names l h a (inl x)
      names l h a (inr (inl (i, p, q, o, u))) = by (i == c) refl
        where
          by : (t : Bool) → (i == c) ≡ t → Names r k n l h (slice_index k a)
          by true e =
              let ic : i ≡ c = grind (arith, nat_tests) in
              let v : slice_index k a ≡ 0 = ap (λ y. get_or k y 0) (p ∙ ap (left_at r) ic) ∙ (spares c inside free).0 in
              let lo : l ≡ f.low = q ∙ (ap n.low ic ∙ with_range.0) in
              let hi : h ≡ suc key = o ∙ (ap (tag r k) ic ∙ new) in
              let b = f.below in
              rw v (own-names l h (omega arith) (omega arith) (inr hi))
          by false e = let d : i ≢ c = grind (arith, nat_tests) in old-names l h a (inr (inl (i, p, q ∙ (ranges i d).0, o ∙ others i d, used-old i d u)))
      names l h a (inr (inr (i, p, q, o, u))) = by (i == c) refl
        where
          by : (t : Bool) → (i == c) ≡ t → Names r k n l h (slice_index k a)
          by true e =
              let ic : i ≡ c = grind (arith, nat_tests) in
              let v : slice_index k a ≡ 0 = ap (λ y. get_or k y 0) (p ∙ ap (right_at r) ic) ∙ (spares c inside free).1 in
              let lo : l ≡ suc key = q ∙ (ap (tag r k) ic ∙ new) in
              let hi : h ≡ f.high = o ∙ (ap n.high ic ∙ with_range.1) in
              let b = f.above in
              rw v (own-names l h (omega arith) (omega arith) (inl lo))
          by false e = let d : i ≢ c = grind (arith, nat_tests) in old-names l h a (inr (inr (i, p, q ∙ others i d, o ∙ (ranges i d).1, used-old i d u)))

      lows : (i : ℕ) → Used r k i → (t : Bool) → (i == c) ≡ t → (n.low i < tag r k i) × Bounds r k n 0 (n.rank i) (n.low i)
      lows i u true e = let ic : i ≡ c = grind (arith, nat_tests) in let t : tag r k i ≡ suc key = ap (tag r k) ic ∙ new in let lo : n.low i ≡ f.low = ap n.low ic ∙ with_range.0 in let a = f.above in
          (omega arith, subst (λ x. Bounds r k n 0 x (n.low i)) (sym (ap n.rank ic ∙ with_range.2)) (subst (Bounds r k n 0 _) (sym lo) (bounds-new 0 _ f.low (link-low r m g f.low f.high s.link w f.link))))
      lows i u false e = let d : i ≢ c = grind (arith, nat_tests) in let x = w.lows i (used-old i d u) in let t = others i d in let q = ranges i d in
          (subst (λ y. y < tag r k i) (sym q.0) (subst (λ y. g.low i < y) (sym t) x.0), subst (λ y. Bounds r k n 0 y (n.low i)) (sym q.2) (subst (Bounds r k n 0 (g.rank i)) (sym q.0) (bounds-new 0 (g.rank i) (g.low i) x.1)))

      highs : (i : ℕ) → Used r k i → (t : Bool) → (i == c) ≡ t → (tag r k i < n.high i) × Bounds r k n top (n.rank i) (n.high i)
      highs i u true e = let ic : i ≡ c = grind (arith, nat_tests) in let t : tag r k i ≡ suc key = ap (tag r k) ic ∙ new in let hi : n.high i ≡ f.high = ap n.high ic ∙ with_range.1 in let b = f.below in
          (omega arith, subst (λ x. Bounds r k n top x (n.high i)) (sym (ap n.rank ic ∙ with_range.2)) (subst (Bounds r k n top _) (sym hi) (bounds-new top _ f.high (link-high r m g f.low f.high s.link w f.link))))
      highs i u false e = let d : i ≢ c = grind (arith, nat_tests) in let x = w.highs i (used-old i d u) in let t = others i d in let q = ranges i d in
          (subst (λ y. tag r k i < y) (sym q.1) (subst (λ y. y < g.high i) (sym t) x.0), subst (λ y. Bounds r k n top y (n.high i)) (sym q.2) (subst (Bounds r k n top (g.rank i)) (sym q.1) (bounds-new top (g.rank i) (g.high i) x.1)))

      differ : (i j : ℕ) → Used r k i → Used r k j → tag r k i ≡ tag r k j → (x : Bool) → (i == c) ≡ x → (y : Bool) → (j == c) ≡ y → i ≡ j
      differ i j u v e true p true q = let a : i ≡ c = grind (arith, nat_tests) in let b : j ≡ c = grind (arith, nat_tests) in a ∙ sym b
      differ i j u v e true p false q = let a : i ≡ c = grind (arith, nat_tests) in let b : j ≢ c = grind (arith, nat_tests) in absurd (absent j v.inside (sym (others j b) ∙ (sym e ∙ (ap (tag r k) a ∙ new))))
      differ i j u v e false p true q = let a : j ≡ c = grind (arith, nat_tests) in let b : i ≢ c = grind (arith, nat_tests) in absurd (absent i u.inside (sym (others i b) ∙ (e ∙ (ap (tag r k) a ∙ new))))
      differ i j u v e false p false q = let a : i ≢ c = grind (arith, nat_tests) in let b : j ≢ c = grind (arith, nat_tests) in w.differ i j (used-old i a u) (used-old j b v) (sym (others i a) ∙ (e ∙ others j b))

      small : (i : ℕ) → i < r.cells → (t : Bool) → (i == c) ≡ t → tag r k i < top
      small i lt true q = let t : tag r k i ≡ suc key = ap (tag r k) (grind (arith, nat_tests)) ∙ new in let b = f.below in let x = high-most r m g f.low f.high s.link w f.link in omega arith
      small i lt false q = subst (λ y. y < top) (sym (others i (grind (arith, nat_tests)))) (w.small i lt)

-- the ranges with those of cell c
abbrev pub with_range : Ranges → ℕ → ℕ → ℕ → ℕ → Ranges
with_range g c l h n = record {
  low = λ i. if i == c then l else g.low i;
  high = λ i. if i == c then h else g.high i;
  rank = λ i. if i == c then n else g.rank i;
}
