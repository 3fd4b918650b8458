-- A cell whose tag moves up, past no other, keeps a tree's shape.
use Rattle.std.proofs.Common.{ℕ, zero, suc, ◌≡◌, ◌<◌, ◌≤◌, ◌≢◌, List, Bool, true, false, refl, sym, ap, ◌∙◌, arith, subst, inl, inr}
use Rattle.std.specs.Prelude.{◌⊎◌, ◌==◌, ltb, slice_index}
use Rattle.std.proofs.lemmas.Bool.Decides.{nat_tests}
use Rattle.data_tree.specs.declared.pool.Pool.{Pool}
use Rattle.data_tree.specs.Shapes.{left_at, right_at, tag, top, Ranges, Used, LinkOf, Names, Bounds, Holds}
use Rattle.data_tree.proofs.ShapeOrder.{link-low, link-high}
use Rattle.data_tree.proofs.ShapeSplices.{shift, shift-at, shift-off, shift-by, shifted}

-- A CELL RETAGGED. k is m with x's tag v, and no tag stands between
module _ (r : Pool) (m k : List ℕ) (g : Ranges) (x v : ℕ) (w : Holds r m g) (u : Used r m x) (up : tag r m x ≤ v) (under : v < top)
    (gap : (i : ℕ) → Used r m i → tag r m x < tag r m i → v < tag r m i)
    (others : (i : ℕ) → i ≢ x → tag r k i ≡ tag r m i) (new : tag r k x ≡ v)
    (words : (l h a : ℕ) → LinkOf r m g l h a → slice_index k a ≡ slice_index m a)
    (spares : (i : ℕ) → i < r.cells → tag r m i ≡ 0 → (slice_index k (left_at r i) ≡ 0) × (slice_index k (right_at r i) ≡ 0)) where
  abbrev t : ℕ
  t = tag r m x

  abbrev n : Ranges
  n = shifted g t v v

  pos : 0 < t
  pos = u.pos

  -- tags, and where ranges end
  abbrev End : ℕ → Type 0
  End a = (a ≡ 0) ⊎ ((a ≡ top) ⊎ ((i : ℕ) × Used r m i × (tag r m i ≡ a)))

  beyond : (a : ℕ) → End a → t < a → v < a
  beyond a (inl e) lt = absurd (omega arith)
  beyond a (inr (inl e)) lt = omega arith
  beyond a (inr (inr (i, ui, e))) lt = let b = gap i ui (omega arith) in omega arith

  -- the shift keeps their order
  keeps : (a b : ℕ) → End a → End b → a < b → shift t v a < shift t v b
  keeps a b ea eb lt = by (shift-by t v a) (shift-by t v b)
    where
      by : ((a ≡ t) × (shift t v a ≡ v)) ⊎ ((a ≢ t) × (shift t v a ≡ a)) → ((b ≡ t) × (shift t v b ≡ v)) ⊎ ((b ≢ t) × (shift t v b ≡ b)) → shift t v a < shift t v b
      by (inl (p, q)) (inl (c, d)) = absurd (omega arith)
      by (inl (p, q)) (inr (c, d)) = let z = beyond b eb (omega arith) in omega arith
      by (inr (p, q)) (inl (c, d)) = omega arith
      by (inr (p, q)) (inr (c, d)) = omega arith

  back : (a b : ℕ) → End a → End b → shift t v a < shift t v b → a < b
  back a b ea eb lt = by (ltb a b) refl (ltb b a) refl
    where
      by : (p : Bool) → ltb a b ≡ p → (q : Bool) → ltb b a ≡ q → a < b
      by true p q o = grind (arith, nat_tests)
      by false p true o = let z = keeps b a eb ea (grind (arith, nat_tests)) in absurd (omega arith)
      by false p false o = let e : a ≡ b = grind (arith, nat_tests) in let z : shift t v a ≡ shift t v b = ap (shift t v) e in absurd (omega arith)

  once : (a b : ℕ) → End a → End b → shift t v a ≡ shift t v b → a ≡ b
  once a b ea eb e = by (ltb a b) refl (ltb b a) refl
    where
      by : (p : Bool) → ltb a b ≡ p → (q : Bool) → ltb b a ≡ q → a ≡ b
      by true p q o = let z = keeps a b ea eb (grind (arith, nat_tests)) in absurd (omega arith)
      by false p true o = let z = keeps b a eb ea (grind (arith, nat_tests)) in absurd (omega arith)
      by false p false o = grind (arith, nat_tests)

  pub used-old : (i : ℕ) → Used r k i → Used r m i
  used-old i o = by (i == x) refl
    where
      by : (b : Bool) → (i == x) ≡ b → Used r m i
      by true q = subst (Used r m) (sym (grind (arith, nat_tests))) u
      by false q = record { inside = o.inside; pos = subst (λ z. 0 < z) (others i (grind (arith, nat_tests))) o.pos }

  tags : (i : ℕ) → Used r m i → tag r k i ≡ shift t v (tag r m i)
  tags i o = by (i == x) refl
    where
      by : (b : Bool) → (i == x) ≡ b → tag r k i ≡ shift t v (tag r m i)
      by true q = let e : i ≡ x = grind (arith, nat_tests) in ap (tag r k) e ∙ (new ∙ sym (shift-at t v (tag r m i) (ap (tag r m) e)))
      by false q = let d : i ≢ x = grind (arith, nat_tests) in others i d ∙ sym (shift-off t v (tag r m i) (λ e. d (w.differ i x o u e)))

  used-new : (i : ℕ) → Used r m i → Used r k i
  used-new i o = record { inside = o.inside; pos = subst (λ z. 0 < z) (sym (tags i o)) (by (shift-by t v (tag r m i))) }
    where
      by : ((tag r m i ≡ t) × (shift t v (tag r m i) ≡ v)) ⊎ ((tag r m i ≢ t) × (shift t v (tag r m i) ≡ tag r m i)) → 0 < shift t v (tag r m i)
      by (inl (a, b)) = let p = pos in omega arith
      by (inr (a, b)) = let p = o.pos in omega arith

  tag-end : (i : ℕ) → Used r m i → End (tag r m i)
  tag-end i o = inr (inr (i, o, refl))

  low-end : (p a : ℕ) → Bounds r m g 0 p a → End a
  low-end p a (inl e) = inl e
  low-end p a (inr (i, o, e, lt)) = inr (inr (i, o, e))

  high-end : (p a : ℕ) → Bounds r m g top p a → End a
  high-end p a (inl e) = inr (inl e)
  high-end p a (inr (i, o, e, lt)) = inr (inr (i, o, e))

  -- a cell stays in the range of another, and comes into none
  pub retag-in : (i j : ℕ) → Used r m i → Used r m j → g.low i < tag r m j → tag r m j < g.high i → (shift t v (g.low i) < tag r k j) × (tag r k j < shift t v (g.high i))
  retag-in i j a b lo hi = (
    subst (λ z. shift t v (g.low i) < z) (sym (tags j b)) (keeps (g.low i) (tag r m j) (low-end _ (g.low i) (w.lows i a).1) (tag-end j b) lo),
    subst (λ z. z < shift t v (g.high i)) (sym (tags j b)) (keeps (tag r m j) (g.high i) (tag-end j b) (high-end _ (g.high i) (w.highs i a).1) hi),
  )

  pub retag-back : (i j : ℕ) → Used r m i → Used r m j → shift t v (g.low i) < tag r k j → tag r k j < shift t v (g.high i) → (g.low i < tag r m j) × (tag r m j < g.high i)
  retag-back i j a b lo hi = (
    back (g.low i) (tag r m j) (low-end _ (g.low i) (w.lows i a).1) (tag-end j b) (subst (λ z. shift t v (g.low i) < z) (tags j b) lo),
    back (tag r m j) (g.high i) (tag-end j b) (high-end _ (g.high i) (w.highs i a).1) (subst (λ z. z < shift t v (g.high i)) (tags j b) hi),
  )

  shift-zero : shift t v 0 ≡ 0
  shift-zero = shift-off t v 0 (λ e. (let p = pos in absurd (omega arith)))

  shift-top : shift t v top ≡ top
  shift-top = shift-off t v top (λ e. (let p = w.small x u.inside in absurd (omega arith)))

  from-new : (l h a : ℕ) → LinkOf r k n l h a → (l0 : ℕ) × (h0 : ℕ) × LinkOf r m g l0 h0 a × (l ≡ shift t v l0) × (h ≡ shift t v h0)
  from-new l h a (inl z) = (0, top, inl (z.0, refl, refl), z.1 ∙ sym shift-zero, z.2 ∙ sym shift-top)
  from-new l h a (inr (inl (i, p, q, o, z))) = let b = used-old i z in (g.low i, tag r m i, inr (inl (i, p, refl, refl, b)), q, o ∙ tags i b)
  from-new l h a (inr (inr (i, p, q, o, z))) = let b = used-old i z in (tag r m i, g.high i, inr (inr (i, p, refl, refl, b)), q ∙ tags i b, o)

  names-new : (l0 h0 a : ℕ) → LinkOf r m g l0 h0 a → (z : ℕ) → Names r m g l0 h0 z → Names r k n (shift t v l0) (shift t v h0) z
  names-new l0 h0 a y zero nm = λ i o.
      let b = used-old i (record { inside = o.inside; pos = (let c = o.above in omega arith) }) in
      let e = tags i b in
      nm i (record {
        inside = o.inside;
        above = back l0 (tag r m i) (low-end _ l0 (link-low r m g l0 h0 a w y)) (tag-end i b) (subst (λ c. shift t v l0 < c) e o.above);
        below = back (tag r m i) h0 (tag-end i b) (high-end _ h0 (link-high r m g l0 h0 a w y)) (subst (λ c. c < shift t v h0) e o.below);
      })
  names-new l0 h0 a y (suc j) nm =
      let b : Used r m j = record { inside = nm.0.inside; pos = (let c = nm.0.above in omega arith) } in
      let e = sym (tags j b) in (
        record {
          inside = nm.0.inside;
          above = subst (λ c. shift t v l0 < c) e (keeps l0 (tag r m j) (low-end _ l0 (link-low r m g l0 h0 a w y)) (tag-end j b) nm.0.above);
          below = subst (λ c. c < shift t v h0) e (keeps (tag r m j) h0 (tag-end j b) (high-end _ h0 (link-high r m g l0 h0 a w y)) nm.0.below);
        },
        ap (shift t v) nm.1,
        ap (shift t v) nm.2,
      )

  pub retag-keeps : Holds r k n
  retag-keeps = record {
    names = names;
    lows = lows;
    highs = highs;
    differ = λ i j a b e. let c = used-old i a in let d = used-old j b in w.differ i j c d (once (tag r m i) (tag r m j) (tag-end i c) (tag-end j d) (sym (tags i c) ∙ (e ∙ tags j d)));
    spare = λ i lt z. spare i lt z (i == x) refl;
    small = λ i lt. small i lt (i == x) refl;
  }
    where
      names : (l h a : ℕ) → LinkOf r k n l h a → Names r k n l h (slice_index k a)
      names l h a y = let q = from-new l h a y in
          subst (λ z. Names r k n z h (slice_index k a)) (sym q.3) (subst (λ z. Names r k n (shift t v q.0) z (slice_index k a)) (sym q.4)
          (subst (Names r k n (shift t v q.0) (shift t v q.1)) (sym (words q.0 q.1 a q.2)) (names-new q.0 q.1 a q.2 (slice_index m a) (w.names q.0 q.1 a q.2))))

      lows : (i : ℕ) → Used r k i → (n.low i < tag r k i) × Bounds r k n 0 (n.rank i) (n.low i)
      lows i o = let b = used-old i o in let a = w.lows i b in
          (subst (λ z. shift t v (g.low i) < z) (sym (tags i b)) (keeps (g.low i) (tag r m i) (low-end _ (g.low i) a.1) (tag-end i b) a.0), bound a.1)
        where
          bound : Bounds r m g 0 (g.rank i) (g.low i) → Bounds r k n 0 (g.rank i) (shift t v (g.low i))
          bound (inl e) = inl (ap (shift t v) e ∙ shift-zero)
          bound (inr (j, b, e, lt)) = inr (j, used-new j b, tags j b ∙ ap (shift t v) e, lt)

      highs : (i : ℕ) → Used r k i → (tag r k i < n.high i) × Bounds r k n top (n.rank i) (n.high i)
      highs i o = let b = used-old i o in let a = w.highs i b in
          (subst (λ z. z < shift t v (g.high i)) (sym (tags i b)) (keeps (tag r m i) (g.high i) (tag-end i b) (high-end _ (g.high i) a.1) a.0), bound a.1)
        where
          bound : Bounds r m g top (g.rank i) (g.high i) → Bounds r k n top (g.rank i) (shift t v (g.high i))
          bound (inl e) = inl (ap (shift t v) e ∙ shift-top)
          bound (inr (j, b, e, lt)) = inr (j, used-new j b, tags j b ∙ ap (shift t v) e, lt)

      spare : (i : ℕ) → i < r.cells → tag r k i ≡ 0 → (b : Bool) → (i == x) ≡ b → (slice_index k (left_at r i) ≡ 0) × (slice_index k (right_at r i) ≡ 0)
      spare i lt z true q = let e : tag r k i ≡ v = ap (tag r k) (grind (arith, nat_tests)) ∙ new in let p = pos in absurd (omega arith)
      spare i lt z false q = spares i lt (sym (others i (grind (arith, nat_tests))) ∙ z)

      small : (i : ℕ) → i < r.cells → (b : Bool) → (i == x) ≡ b → tag r k i < top
      small i lt true q = let e : tag r k i ≡ v = ap (tag r k) (grind (arith, nat_tests)) ∙ new in omega arith
      small i lt false q = subst (λ z. z < top) (sym (others i (grind (arith, nat_tests)))) (w.small i lt)
