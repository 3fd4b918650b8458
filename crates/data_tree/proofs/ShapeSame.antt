-- What leaves the tags and the links of a tree leaves its shape; the empty tree; and which words are outside.
use Rattle.std.proofs.Common.{ℕ, zero, suc, ◌≡◌, ◌<◌, ◌≤◌, ◌≢◌, ◌+◌, ◌*◌, List, get_or, replicate, sym, ◌∙◌, arith, subst, inl, inr}
use Rattle.std.specs.Prelude.{◌⊎◌, slice_index}
use Rattle.data_effects.specs.EffectLaws.{zero-at}
use Rattle.data_tree.specs.declared.pool.Pool.{Pool}
use Rattle.data_tree.specs.Shapes.{width, tag_at, left_at, right_at, tag, top, Ranges, Used, LinkOf, Names, Bounds, Holds}
use Rattle.data_tree.proofs.ShapeOrder.{link-inside}

-- k has the tags and links of m
module _ (r : Pool) (m k : List ℕ) (g : Ranges) (w : Holds r m g) (root : slice_index k r.at ≡ slice_index m r.at) (tags : (i : ℕ) → i < r.cells → tag r k i ≡ tag r m i)
    (lefts : (i : ℕ) → i < r.cells → slice_index k (left_at r i) ≡ slice_index m (left_at r i)) (rights : (i : ℕ) → i < r.cells → slice_index k (right_at r i) ≡ slice_index m (right_at r i)) where
  pub same-used-old : (i : ℕ) → Used r k i → Used r m i
  same-used-old i u = record { inside = u.inside; pos = subst (λ z. 0 < z) (tags i u.inside) u.pos }

  pub same-used-new : (i : ℕ) → Used r m i → Used r k i
  same-used-new i u = record { inside = u.inside; pos = subst (λ z. 0 < z) (sym (tags i u.inside)) u.pos }

  names-new : (l h v : ℕ) → Names r m g l h v → Names r k g l h v
  names-new l h zero n = λ i y. let t = tags i y.inside in n i (record { inside = y.inside; above = subst (λ z. l < z) t y.above; below = subst (λ z. z < h) t y.below })
  names-new l h (suc j) n = let t = sym (tags j n.0.inside) in (record { inside = n.0.inside; above = subst (λ z. l < z) t n.0.above; below = subst (λ z. z < h) t n.0.below }, n.1, n.2)

  bounds-new : (end p l : ℕ) → Bounds r m g end p l → Bounds r k g end p l
  bounds-new end p l (inl e) = inl e
  bounds-new end p l (inr (i, u, e, lt)) = inr (i, same-used-new i u, tags i u.inside ∙ e, lt)

  pub same-link : (l h a : ℕ) → LinkOf r m g l h a → LinkOf r k g l h a
  same-link l h a (inl x) = inl x
  same-link l h a (inr (inl (i, p, q, o, u))) = inr (inl (i, p, q, o ∙ sym (tags i u.inside), same-used-new i u))
  same-link l h a (inr (inr (i, p, q, o, u))) = inr (inr (i, p, q ∙ sym (tags i u.inside), o, same-used-new i u))

  word : (l h a : ℕ) → LinkOf r k g l h a → slice_index k a ≡ slice_index m a
  word l h a (inl x) = subst (λ i. get_or k i 0 ≡ get_or m i 0) (sym x.0) root
  word l h a (inr (inl (i, p, q, o, u))) = subst (λ y. get_or k y 0 ≡ get_or m y 0) (sym p) (lefts i u.inside)
  word l h a (inr (inr (i, p, q, o, u))) = subst (λ y. get_or k y 0 ≡ get_or m y 0) (sym p) (rights i u.inside)

  old-link : (l h a : ℕ) → LinkOf r k g l h a → LinkOf r m g l h a
  old-link l h a (inl x) = inl x
  old-link l h a (inr (inl (i, p, q, o, u))) = inr (inl (i, p, q, o ∙ tags i u.inside, same-used-old i u))
  old-link l h a (inr (inr (i, p, q, o, u))) = inr (inr (i, p, q ∙ tags i u.inside, o, same-used-old i u))

  pub same-shape : Holds r k g
  same-shape = record {
    names = λ l h a x. subst (Names r k g l h) (sym (word l h a x)) (names-new l h (slice_index m a) (w.names l h a (old-link l h a x)));
    lows = λ i u. let a = w.lows i (same-used-old i u) in (subst (λ z. g.low i < z) (sym (tags i u.inside)) a.0, bounds-new 0 (g.rank i) (g.low i) a.1);
    highs = λ i u. let a = w.highs i (same-used-old i u) in (subst (λ z. z < g.high i) (sym (tags i u.inside)) a.0, bounds-new top (g.rank i) (g.high i) a.1);
    differ = λ i j u v e. w.differ i j (same-used-old i u) (same-used-old j v) (sym (tags i u.inside) ∙ (e ∙ tags j v.inside));
    spare = λ i lt z. let s = w.spare i lt (sym (tags i lt) ∙ z) in (lefts i lt ∙ s.0, rights i lt ∙ s.1);
    small = λ i lt. subst (λ z. z < top) (sym (tags i lt)) (w.small i lt);
  }

-- the memory of zeros has the empty tree
abbrev pub no-ranges : Ranges
no-ranges = record { low = λ i. 0; high = λ i. 0; rank = λ i. 0 }

pub zeros-shape : (r : Pool) (n : ℕ) → Holds r (replicate n 0) no-ranges
zeros-shape r n = record {
  names = λ l h a x. subst (Names r (replicate n 0) no-ranges l h) (sym (zero-at n a)) (λ i y. no i (let p = y.above in omega arith));
  lows = λ i u. absurd (no i u.pos);
  highs = λ i u. absurd (no i u.pos);
  differ = λ i j u v e. absurd (no i u.pos);
  spare = λ i lt z. (zero-at n (left_at r i), zero-at n (right_at r i));
  small = λ i lt. let z = zero-at n (tag_at r i) in omega arith;
}
  where
    no : (i : ℕ) → 0 < tag r (replicate n 0) i → ⊥
    no i p = let z = zero-at n (tag_at r i) in absurd (omega arith)

-- the words outside a tree
abbrev pub Outside : Pool → ℕ → Type 0
Outside r x = (x < r.at) ⊎ (r.at + 1 + width r * r.cells ≤ x)

pub out-of : (r : Pool) (x a : ℕ) → Outside r x → r.at ≤ a → a < r.at + 1 + width r * r.cells → x ≢ a
out-of r x a (inl o) lo hi e = absurd (omega arith)
out-of r x a (inr o) lo hi e = absurd (omega arith)

pub link-place : (r : Pool) (m : List ℕ) (g : Ranges) (l h a : ℕ) → LinkOf r m g l h a → (r.at ≤ a) × (a < r.at + 1 + width r * r.cells)
link-place r m g l h a x = (by x, (link-inside r m g l h a x).1)
  where
    by : LinkOf r m g l h a → r.at ≤ a
    by (inl x) = let p = x.0 in omega arith
    by (inr (inl (i, p, q, o, u))) = omega arith
    by (inr (inr (i, p, q, o, u))) = omega arith
