-- A cell whose tag moves up, past no other, keeps a map well formed.
use Rattle.std.proofs.Common.{ℕ, zero, suc, ◌≡◌, ◌<◌, ◌≤◌, ◌≢◌, ◌+◌, ◌*◌, ◌%◌, ◌^◌, List, length, Bool, true, false, refl, sym, ap, ◌∙◌, arith}
use Rattle.std.specs.Prelude.{◌==◌, slice_index}
use Rattle.std.proofs.lemmas.List.{get_or-set_same, get_or-set_other}
use Rattle.std.proofs.lemmas.Bool.Decides.{nat_tests}
use Rattle.data_tree.specs.Shapes.{Ranges, LinkOf, top}
use Rattle.data_tree.proofs.ShapeOrder.{link-inside}
use Rattle.data_tree.proofs.ShapeSplices.{shift, shifted}
use Rattle.data_tree.proofs.ShapeRetags.{retag-keeps, retag-in, retag-back, used-old}
use Rattle.data_sums.specs.declared.sum_map.SumMap.{SumMap}
use Rattle.data_sums.specs.Sums.{pool, tag_at, left_at, right_at, value_at, sum_at, tag, value, Used, Holds, sum_within, retagged}
use Rattle.data_sums.proofs.SumTrees.{part-step, part-same}

-- A CELL RETAGGED, the word written
module _ (r : SumMap) (m : List ℕ) (g : Ranges) (x v : ℕ) (w : Holds r m g) (u : Used r m x) (up : tag r m x ≤ v) (under : v < top)
    (gap : (i : ℕ) → Used r m i → tag r m x < tag r m i → v < tag r m i) (room : r.at + 1 + 5 * r.cells ≤ length m) where
  abbrev k : List ℕ
  k = retagged r x v m

  others : (i : ℕ) → i ≢ x → tag r k i ≡ tag r m i
  others i d = get_or-set_other m (tag_at r x) (tag_at r i) v 0 (λ q. d (omega arith))

  new : tag r k x ≡ v
  new = get_or-set_same m (tag_at r x) v 0 (let i = u.inside in omega arith)

  words : (l h a : ℕ) → LinkOf (pool r) m g l h a → slice_index k a ≡ slice_index m a
  words l h a z = get_or-set_other m (tag_at r x) a v 0 ((link-inside (pool r) m g l h a z).0 x)

  values : (i : ℕ) → value r k i ≡ value r m i
  values i = get_or-set_other m (tag_at r x) (value_at r i) v 0 (λ q. absurd (omega arith))

  sums : (i : ℕ) → slice_index k (sum_at r i) ≡ slice_index m (sum_at r i)
  sums i = get_or-set_other m (tag_at r x) (sum_at r i) v 0 (λ q. absurd (omega arith))

  spares : (i : ℕ) → i < r.cells → tag r m i ≡ 0 → (slice_index k (left_at r i) ≡ 0) × (slice_index k (right_at r i) ≡ 0)
  spares i lt z = let s = w.shape.spare i lt z in
      (get_or-set_other m (tag_at r x) (left_at r i) v 0 (λ q. absurd (omega arith)) ∙ s.0, get_or-set_other m (tag_at r x) (right_at r i) v 0 (λ q. absurd (omega arith)) ∙ s.1)

  by : (i : ℕ) → i < r.cells → tag r k i ≡ 0 → (b : Bool) → (i == x) ≡ b → (value r k i ≡ 0) × (slice_index k (sum_at r i) ≡ 0)
  by i lt z true q = let e : tag r k i ≡ v = ap (tag r k) (grind (arith, nat_tests)) ∙ new in let p = u.pos in absurd (omega arith)
  by i lt z false q = let s = w.bare i lt (sym (others i (grind (arith, nat_tests))) ∙ z) in (values i ∙ s.0, sums i ∙ s.1)

  old : (i : ℕ) → Used r k i → Used r m i
  old i o = used-old (pool r) m k g x v w.shape u up under gap others new words spares i o

  -- values stay, and ranges shift with the tags
  within : (i : ℕ) → Used r m i → (n : ℕ) → n ≤ r.cells → sum_within r k (shift (tag r m x) v (g.low i)) (shift (tag r m x) v (g.high i)) n ≡ sum_within r m (g.low i) (g.high i) n
  within i o zero le = refl
  within i o (suc n) le =
      let e = within i o n (omega arith) in
      let a = part-step r k (shift (tag r m x) v (g.low i)) (shift (tag r m x) v (g.high i)) n in
      let b = part-step r m (g.low i) (g.high i) n in
      let c = part-same r m k (g.low i) (g.high i) (shift (tag r m x) v (g.low i)) (shift (tag r m x) v (g.high i)) n (values n)
      (λ p q. let un : Used r m n = record { inside = omega arith; pos = omega arith } in retag-in (pool r) m k g x v w.shape u up under gap others new words spares i n o un p q)
      (λ p q. let un : Used r m n = old n (record { inside = omega arith; pos = omega arith }) in retag-back (pool r) m k g x v w.shape u up under gap others new words spares i n o un p q) in omega arith

  pub retagged-holds : Holds r (retagged r x v m) (shifted g (tag r m x) v v)
  retagged-holds = record {
    shape = retag-keeps (pool r) m k g x v w.shape u up under gap others new words spares;
    bare = λ i lt z. by i lt z (i == x) refl;
    sums = λ i o. let b = old i o in sums i ∙ (w.sums i b ∙ ap (λ z. z % 2 ^ 64) (sym (within i b r.cells (omega arith))));
  }
