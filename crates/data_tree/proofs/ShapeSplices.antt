-- A cell spliced out of a tree keeps its shape.
use Rattle.std.proofs.Common.{ℕ, zero, suc, ◌≡◌, ◌<◌, ◌≤◌, ◌≢◌, List, get_or, Bool, true, false, refl, sym, ap, ◌∙◌, arith, subst, inl, inr}
use Rattle.std.specs.Prelude.{◌⊎◌, ◌==◌, ltb, if◌then◌else◌, slice_index}
use Rattle.std.proofs.lemmas.Bool.Decides.{nat_tests}
use Rattle.data_tree.specs.declared.pool.Pool.{Pool}
use Rattle.data_tree.specs.Shapes.{left_at, right_at, tag, top, Ranges, Used, Within, LinkOf, Names, Bounds, Holds}
use Rattle.data_tree.proofs.ShapeOrder.{left-once, right-once, sides-apart, link-one, link-same, link-order, same-low, same-high}

-- t becomes v
abbrev pub shift : ℕ → ℕ → ℕ → ℕ
shift t v a = if a == t then v else a

pub shift-at : (t v a : ℕ) → a ≡ t → shift t v a ≡ v
shift-at t v a e = let q : (a == t) ≡ true = grind (arith, nat_tests) in rw q refl

pub shift-off : (t v a : ℕ) → a ≢ t → shift t v a ≡ a
shift-off t v a d = let q : (a == t) ≡ false = grind (arith, nat_tests) in rw q refl

pub shift-by : (t v a : ℕ) → ((a ≡ t) × (shift t v a ≡ v)) ⊎ ((a ≢ t) × (shift t v a ≡ a))
shift-by t v a = by (a == t) refl
  where
    by : (b : Bool) → (a == t) ≡ b → ((a ≡ t) × (shift t v a ≡ v)) ⊎ ((a ≢ t) × (shift t v a ≡ a))
    by true q = let e : a ≡ t = grind (arith, nat_tests) in inl (e, shift-at t v a e)
    by false q = let d : a ≢ t = grind (arith, nat_tests) in inr (d, shift-off t v a d)

abbrev pub shifted : Ranges → ℕ → ℕ → ℕ → Ranges
shifted g t l h = record { low = λ i. shift t l (g.low i); high = λ i. shift t h (g.high i); rank = g.rank }

-- A CELL SPLICED OUT. k is m without the cell y, of which one link is 0, and whose other link v stands at e now
module _ (r : Pool) (m k : List ℕ) (g : Ranges) (l h e y v : ℕ) (w : Holds r m g) (x : LinkOf r m g l h e) (named : slice_index m e ≡ suc y)
    (one : ((slice_index m (left_at r y) ≡ 0) × (slice_index m (right_at r y) ≡ v)) ⊎ ((slice_index m (right_at r y) ≡ 0) × (slice_index m (left_at r y) ≡ v)))
    (others : (i : ℕ) → i ≢ y → tag r k i ≡ tag r m i) (freed : tag r k y ≡ 0)
    (words : (l h a : ℕ) → LinkOf r m g l h a → a ≢ e → a ≢ left_at r y → a ≢ right_at r y → slice_index k a ≡ slice_index m a)
    (at : slice_index k e ≡ v) (own : (slice_index k (left_at r y) ≡ 0) × (slice_index k (right_at r y) ≡ 0))
    (spares : (i : ℕ) → i < r.cells → tag r m i ≡ 0 → (slice_index k (left_at r i) ≡ 0) × (slice_index k (right_at r i) ≡ 0)) where
  abbrev t : ℕ
  t = tag r m y

  abbrev n : Ranges
  n = shifted g t l h

  y-names : Names r m g l h (suc y)
  y-names = subst (Names r m g l h) named (w.names l h e x)

  y-used : Used r m y
  y-used = record { inside = y-names.0.inside; pos = (let a = y-names.0.above in omega arith) }

  y-left : LinkOf r m g l t (left_at r y)
  y-left = inr (inl (y, refl, sym y-names.1, refl, y-used))

  y-right : LinkOf r m g t h (right_at r y)
  y-right = inr (inr (y, refl, refl, sym y-names.2, y-used))

  not-y : (i : ℕ) → 0 < tag r k i → i ≢ y
  not-y i lt e = let q : tag r k i ≡ tag r k y = ap (tag r k) e in absurd (omega arith)

  used-old : (i : ℕ) → Used r k i → (i ≢ y) × Used r m i
  used-old i u = let d = not-y i u.pos in (d, record { inside = u.inside; pos = subst (λ z. 0 < z) (others i d) u.pos })

  used-new : (i : ℕ) → i ≢ y → Used r m i → Used r k i
  used-new i d u = record { inside = u.inside; pos = subst (λ z. 0 < z) (sym (others i d)) u.pos }

  tag-off : (i : ℕ) → i ≢ y → Used r m i → tag r m i ≢ t
  tag-off i d u e = d (w.differ i y u y-used e)

  -- the links of the new tree are those of the old one but y's, with y's tag shifted in their ranges
  from-new : (l' h' a : ℕ) → LinkOf r k n l' h' a → (l0 : ℕ) × (h0 : ℕ) × LinkOf r m g l0 h0 a × (l' ≡ shift t l l0) × (h' ≡ shift t h h0) × (a ≢ left_at r y) × (a ≢ right_at r y)
  from-new l' h' a (inl z) = (
    0,
    top,
    inl (z.0, refl, refl),
    z.1 ∙ sym (shift-off t l 0 (λ q. (let p = y-used.pos in absurd (omega arith)))),
    z.2 ∙ sym (shift-off t h top (λ q. (let p = w.small y y-used.inside in absurd (omega arith)))),
    (λ q. (let p = z.0 in absurd (omega arith))),
    (λ q. (let p = z.0 in absurd (omega arith))),
  )
  from-new l' h' a (inr (inl (i, p, q, o, u))) = let z = used-old i u in
      (g.low i, tag r m i, inr (inl (i, p, refl, refl, z.1)), q, o ∙ (others i z.0 ∙ sym (shift-off t h (tag r m i) (tag-off i z.0 z.1))), (λ c. z.0 (left-once r i y (sym p ∙ c))), (λ c. sides-apart r i y (sym p ∙ c)))
  from-new l' h' a (inr (inr (i, p, q, o, u))) = let z = used-old i u in
      (tag r m i, g.high i, inr (inr (i, p, refl, refl, z.1)), q ∙ (others i z.0 ∙ sym (shift-off t l (tag r m i) (tag-off i z.0 z.1))), o, (λ c. sides-apart r y i (sym c ∙ p)), (λ c. z.0 (right-once r i y (sym p ∙ c))))

  within-old : (l' h' i : ℕ) → Within r k l' h' i → (i ≢ y) × (tag r m i ≢ t) × Within r m l' h' i
  within-old l' h' i z = let d = not-y i (let a = z.above in omega arith) in let q = others i d in
      let b : Within r m l' h' i = record { inside = z.inside; above = subst (λ c. l' < c) q z.above; below = subst (λ c. c < h') q z.below } in
      (d, tag-off i d (record { inside = z.inside; pos = (let a = b.above in omega arith) }), b)

  within-new : (l' h' i : ℕ) → i ≢ y → l' < tag r m i → tag r m i < h' → i < r.cells → Within r k l' h' i
  within-new l' h' i d a b c = let q = sym (others i d) in record { inside = c; above = subst (λ z. l' < z) q a; below = subst (λ z. z < h') q b }

  -- the ranges of y's links
  no-left : slice_index m (left_at r y) ≡ 0 → (i : ℕ) → Within r m l t i → ⊥
  no-left z = subst (Names r m g l t) z (w.names l t (left_at r y) y-left)

  no-right : slice_index m (right_at r y) ≡ 0 → (i : ℕ) → Within r m t h i → ⊥
  no-right z = subst (Names r m g t h) z (w.names t h (right_at r y) y-right)

  place-names : Names r k n l h v
  place-names = by one v refl
    where
      none : slice_index m (left_at r y) ≡ 0 → slice_index m (right_at r y) ≡ 0 → Names r k n l h 0
      none a b i z = let q = within-old l h i z in side (ltb (tag r m i) t) refl q.1 q.2
        where
          side : (c : Bool) → ltb (tag r m i) t ≡ c → tag r m i ≢ t → Within r m l h i → ⊥
          side true p d q = no-left a i (record { inside = q.inside; above = q.above; below = grind (arith, nat_tests) })
          side false p d q = no-right b i (record { inside = q.inside; above = (let c : t ≤ tag r m i = grind (arith, nat_tests) in omega arith); below = q.below })

      by : ((slice_index m (left_at r y) ≡ 0) × (slice_index m (right_at r y) ≡ v)) ⊎ ((slice_index m (right_at r y) ≡ 0) × (slice_index m (left_at r y) ≡ v)) → (u : ℕ) → v ≡ u → Names r k n l h u
      by (inl (a, b)) zero e = none a (b ∙ e)
      by (inr (a, b)) zero e = none (b ∙ e) a
      by (inl (a, b)) (suc j) e = let z : Names r m g t h (suc j) = subst (Names r m g t h) (b ∙ e) (w.names t h (right_at r y) y-right) in
          let lo = y-names.0.above in let p = z.0.above in (
            within-new l h j (λ c. (let q : tag r m j ≡ tag r m y = ap (tag r m) c in absurd (omega arith))) (omega arith) z.0.below z.0.inside,
            shift-at t l (g.low j) z.1,
            ap (shift t h) z.2 ∙ shift-off t h h (λ c. (let q = y-names.0.below in absurd (omega arith))),
          )
      by (inr (a, b)) (suc j) e = let z : Names r m g l t (suc j) = subst (Names r m g l t) (b ∙ e) (w.names l t (left_at r y) y-left) in
          let hi = y-names.0.below in let p = z.0.below in (
            within-new l h j (λ c. (let q : tag r m j ≡ tag r m y = ap (tag r m) c in absurd (omega arith))) z.0.above (omega arith) z.0.inside,
            ap (shift t l) z.1 ∙ shift-off t l l (λ c. (let q = y-names.0.above in absurd (omega arith))),
            shift-at t h (g.high j) z.2,
          )

  -- what is within a shifted empty range would be within the range itself, or beside y
  still-empty : (l0 h0 d0 i : ℕ) → LinkOf r m g l0 h0 d0 → slice_index m d0 ≡ 0 → d0 ≢ left_at r y → d0 ≢ right_at r y → tag r m i ≢ t → Within r m (shift t l l0) (shift t h h0) i → ⊥
  still-empty l0 h0 d0 i x0 z nl nr off q = by (shift-by t l l0) (shift-by t h h0) one
    where
      gap : (i : ℕ) → Within r m l0 h0 i → ⊥
      gap = subst (Names r m g l0 h0) z (w.names l0 h0 d0 x0)

      above : shift t l l0 < tag r m i
      above = q.above

      below : tag r m i < shift t h h0
      below = q.below

      -- with y's left link empty, and the range beginning at t
      from-left : l0 ≡ t → l < tag r m i → tag r m i < h0 → slice_index m (left_at r y) ≡ 0 → ⊥
      from-left e a b c = side (ltb (tag r m i) t) refl
        where
          side : (d : Bool) → ltb (tag r m i) t ≡ d → ⊥
          side true p = no-left c i (record { inside = q.inside; above = a; below = grind (arith, nat_tests) })
          side false p = gap i (record { inside = q.inside; above = (let d : t ≤ tag r m i = grind (arith, nat_tests) in omega arith); below = b })

      from-right : h0 ≡ t → l0 < tag r m i → tag r m i < h → slice_index m (right_at r y) ≡ 0 → ⊥
      from-right e a b c = side (ltb (tag r m i) t) refl
        where
          side : (d : Bool) → ltb (tag r m i) t ≡ d → ⊥
          side true p = gap i (record { inside = q.inside; above = a; below = (let d : tag r m i < t = grind (arith, nat_tests) in omega arith) })
          side false p = no-right c i (record { inside = q.inside; above = (let d : t ≤ tag r m i = grind (arith, nat_tests) in omega arith); below = b })

      by : ((l0 ≡ t) × (shift t l l0 ≡ l)) ⊎ ((l0 ≢ t) × (shift t l l0 ≡ l0)) → ((h0 ≡ t) × (shift t h h0 ≡ h)) ⊎ ((h0 ≢ t) × (shift t h h0 ≡ h0))
          → ((slice_index m (left_at r y) ≡ 0) × (slice_index m (right_at r y) ≡ v)) ⊎ ((slice_index m (right_at r y) ≡ 0) × (slice_index m (left_at r y) ≡ v)) → ⊥
      by (inl (a, b)) (inl (c, d)) s = let o = link-order r m g l0 h0 d0 w x0 in absurd (omega arith)
      by (inr (a, b)) (inr (c, d)) s = gap i (record { inside = q.inside; above = subst (λ z. z < tag r m i) b above; below = subst (λ z. tag r m i < z) d below })
      by (inl (a, b)) (inr (c, d)) (inl s) = from-left a (subst (λ z. z < tag r m i) b above) (subst (λ z. tag r m i < z) d below) s.0
      by (inl (a, b)) (inr (c, d)) (inr s) = nr (same-low r m g t h0 h d0 (right_at r y) w (subst (λ z. LinkOf r m g z h0 d0) a x0) y-right z s.0)
      by (inr (a, b)) (inl (c, d)) (inr s) = from-right c (subst (λ z. z < tag r m i) b above) (subst (λ z. tag r m i < z) d below) s.0
      by (inr (a, b)) (inl (c, d)) (inl s) = nl (same-high r m g l0 l t d0 (left_at r y) w (subst (λ z. LinkOf r m g l0 z d0) c x0) y-left z s.0)

  old-names : (l0 h0 a : ℕ) → LinkOf r m g l0 h0 a → a ≢ left_at r y → a ≢ right_at r y → Names r k n (shift t l l0) (shift t h h0) (slice_index k a)
  old-names l0 h0 a x0 nl nr = by (a == e) refl
    where
      low-less : (z : ℕ) → shift t l z ≤ z
      low-less z = both (shift-by t l z)
        where
          both : ((z ≡ t) × (shift t l z ≡ l)) ⊎ ((z ≢ t) × (shift t l z ≡ z)) → shift t l z ≤ z
          both (inl (a, b)) = let c = y-names.0.above in omega arith
          both (inr (a, b)) = omega arith

      high-more : (z : ℕ) → z ≤ shift t h z
      high-more z = both (shift-by t h z)
        where
          both : ((z ≡ t) × (shift t h z ≡ h)) ⊎ ((z ≢ t) × (shift t h z ≡ z)) → z ≤ shift t h z
          both (inl (a, b)) = let c = y-names.0.below in omega arith
          both (inr (a, b)) = omega arith

      kept : a ≢ e → (u : ℕ) → slice_index m a ≡ u → Names r m g l0 h0 u → Names r k n (shift t l l0) (shift t h h0) u
      kept d zero z nm = λ i q. let o = within-old (shift t l l0) (shift t h h0) i q in still-empty l0 h0 a i x0 z nl nr o.1 o.2
      kept d (suc j) z nm =
          let jy : j ≢ y = λ c. d (link-same r m g l h a e w (subst (λ b. LinkOf r m g b h a) (sym nm.1 ∙ (ap g.low c ∙ y-names.1)) (subst (λ b. LinkOf r m g l0 b a) (sym nm.2 ∙ (ap g.high c ∙ y-names.2)) x0)) x) in
          let p = low-less l0 in let q = high-more h0 in let b = nm.0.above in let c = nm.0.below in
          (within-new (shift t l l0) (shift t h h0) j jy (omega arith) (omega arith) nm.0.inside, ap (shift t l) nm.1, ap (shift t h) nm.2)

      by : (b : Bool) → (a == e) ≡ b → Names r k n (shift t l l0) (shift t h h0) (slice_index k a)
      by true q =
          let c : a ≡ e = grind (arith, nat_tests) in
          let o = link-one r m g l0 h0 l h a w x0 (subst (LinkOf r m g l h) (sym c) x) in
          let u : slice_index k a ≡ v = ap (λ z. get_or k z 0) c ∙ at in
          let lo : shift t l l0 ≡ l = ap (shift t l) o.0 ∙ shift-off t l l (λ c. (let q = y-names.0.above in absurd (omega arith))) in
          let hi : shift t h h0 ≡ h = ap (shift t h) o.1 ∙ shift-off t h h (λ c. (let q = y-names.0.below in absurd (omega arith))) in
          subst (λ z. Names r k n z (shift t h h0) (slice_index k a)) (sym lo) (subst (λ z. Names r k n l z (slice_index k a)) (sym hi) (subst (Names r k n l h) (sym u) place-names))
      by false q = let d : a ≢ e = grind (arith, nat_tests) in subst (Names r k n (shift t l l0) (shift t h h0)) (sym (words l0 h0 a x0 d nl nr)) (kept d (slice_index m a) refl (w.names l0 h0 a x0))

  -- y's own bound stands in for y
  bound : (end p b c : ℕ) → Bounds r m g end p b → end ≢ t → Bounds r m g end (g.rank y) c → c ≢ t → Bounds r k n end p (shift t c b)
  bound end p b c s ne o nc = by (shift-by t c b) s o
    where
      by : ((b ≡ t) × (shift t c b ≡ c)) ⊎ ((b ≢ t) × (shift t c b ≡ b)) → Bounds r m g end p b → Bounds r m g end (g.rank y) c → Bounds r k n end p (shift t c b)
      by (inl (a, d)) (inl s) o = absurd (ne (sym s ∙ a))
      by (inl (a, d)) (inr (i, u, f, lt)) (inl o) = inl (d ∙ o)
      by (inl (a, d)) (inr (i, u, f, lt)) (inr (j, u', f', lt')) =
          let iy : i ≡ y = w.differ i y u y-used (f ∙ a) in
          let ry : g.rank i ≡ g.rank y = ap g.rank iy in
          let jy : j ≢ y = λ q. nc (sym f' ∙ ap (tag r m) q) in
          inr (j, used-new j jy u', others j jy ∙ (f' ∙ sym d), omega arith)
      by (inr (a, d)) (inl s) o = inl (d ∙ s)
      by (inr (a, d)) (inr (i, u, f, lt)) o = let iy : i ≢ y = λ q. a (sym f ∙ ap (tag r m) q) in inr (i, used-new i iy u, others i iy ∙ (f ∙ sym d), lt)

  pub splice-keeps : Holds r k n
  splice-keeps = record {
    names = names;
    lows = lows;
    highs = highs;
    differ = λ i j u v e. let a = used-old i u in let b = used-old j v in w.differ i j a.1 b.1 (sym (others i a.0) ∙ (e ∙ others j b.0));
    spare = λ i lt z. spare i lt z (i == y) refl;
    small = λ i lt. small i lt (i == y) refl;
  }
    where
      names : (l' h' a : ℕ) → LinkOf r k n l' h' a → Names r k n l' h' (slice_index k a)
      names l' h' a x' = let q = from-new l' h' a x' in
          subst (λ z. Names r k n z h' (slice_index k a)) (sym q.3) (subst (λ z. Names r k n (shift t l q.0) z (slice_index k a)) (sym q.4) (old-names q.0 q.1 a q.2 q.5 q.6))

      lows : (i : ℕ) → Used r k i → (n.low i < tag r k i) × Bounds r k n 0 (n.rank i) (n.low i)
      lows i u = let o = used-old i u in let a = w.lows i o.1 in (
        subst (λ z. shift t l (g.low i) < z) (sym (others i o.0)) (less (shift-by t l (g.low i)) a.0),
        bound 0 (g.rank i) (g.low i) l a.1 (λ q. (let p = y-used.pos in absurd (omega arith))) (subst (Bounds r m g 0 (g.rank y)) y-names.1 (w.lows y y-used).1) (λ q. (let p = y-names.0.above in absurd (omega arith))),
      )
        where
          less : ((g.low i ≡ t) × (shift t l (g.low i) ≡ l)) ⊎ ((g.low i ≢ t) × (shift t l (g.low i) ≡ g.low i)) → g.low i < tag r m i → shift t l (g.low i) < tag r m i
          less (inl (a, b)) lt = let p = y-names.0.above in omega arith
          less (inr (a, b)) lt = omega arith

      highs : (i : ℕ) → Used r k i → (tag r k i < n.high i) × Bounds r k n top (n.rank i) (n.high i)
      highs i u = let o = used-old i u in let a = w.highs i o.1 in (
        subst (λ z. z < shift t h (g.high i)) (sym (others i o.0)) (less (shift-by t h (g.high i)) a.0),
        bound top (g.rank i) (g.high i) h a.1 (λ q. (let p = w.small y y-used.inside in absurd (omega arith))) (subst (Bounds r m g top (g.rank y)) y-names.2 (w.highs y y-used).1) (λ q. (let p = y-names.0.below in absurd (omega arith))),
      )
        where
          less : ((g.high i ≡ t) × (shift t h (g.high i) ≡ h)) ⊎ ((g.high i ≢ t) × (shift t h (g.high i) ≡ g.high i)) → tag r m i < g.high i → tag r m i < shift t h (g.high i)
          less (inl (a, b)) lt = let p = y-names.0.below in omega arith
          less (inr (a, b)) lt = omega arith

      spare : (i : ℕ) → i < r.cells → tag r k i ≡ 0 → (b : Bool) → (i == y) ≡ b → (slice_index k (left_at r i) ≡ 0) × (slice_index k (right_at r i) ≡ 0)
      spare i lt z true q = let c : i ≡ y = grind (arith, nat_tests) in (ap (λ j. get_or k (left_at r j) 0) c ∙ own.0, ap (λ j. get_or k (right_at r j) 0) c ∙ own.1)
      spare i lt z false q = spares i lt (sym (others i (grind (arith, nat_tests))) ∙ z)

      small : (i : ℕ) → i < r.cells → (b : Bool) → (i == y) ≡ b → tag r k i < top
      small i lt true q = let c : tag r k i ≡ 0 = ap (tag r k) (grind (arith, nat_tests)) ∙ freed in omega arith
      small i lt false q = subst (λ z. z < top) (sym (others i (grind (arith, nat_tests)))) (w.small i lt)
