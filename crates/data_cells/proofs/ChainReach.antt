-- In well-formed chains each used cell is on the walk from its head, along which tags ascend, so that it is there once.
use Rattle.std.proofs.Common.{ℕ, zero, suc, ◌≡◌, ◌<◌, ◌≤◌, ◌≢◌, ◌+◌, List, Bool, true, false, refl, sym, arith, inl, inr}
use Rattle.std.specs.Prelude.{◌⊎◌, ◌==◌, slice_index}
use Rattle.std.proofs.Math.Nat.{mod-lt}
use Rattle.std.proofs.lemmas.Bool.Decides.{nat_tests}
use Rattle.data_effects.specs.Keys.{less_one}
use Rattle.data_cells.specs.declared.chains.Chains.{Chains}
use Rattle.data_effects.proofs.KeyLaws.{how_many-most}
use Rattle.data_cells.specs.Chains.{next_at, tag, bucket, head_of, Above, LinkOf, Names, IsChains}
use Rattle.data_cells.proofs.ChainLaws.{left, left-step, left-some}
use Rattle.data_cells.specs.ChainWalks.{walk_by, walk, TagsAscend, Among}

walks : (r : Chains) (m : List ℕ) (b n low a : ℕ) → IsChains r m → LinkOf r m b low a → left r m b low ≤ n → TagsAscend r m low (walk r m n a) × ((i : ℕ) → Above r m b low i → Among i (walk r m n a))
walks r m b zero low a w l le = (tt, λ i h. by (slice_index m a) (w.names b low a l) i h)
  where
    by : (v : ℕ) → Names r m b low v → (i : ℕ) → Above r m b low i → ⊥
    by zero n i h = n i h
    by (suc j) n i h = let x = left-some r m b low j w n in absurd (omega arith)
walks r m b (suc n) low a w l le = by (slice_index m a) (w.names b low a l)
    (λ j h. walks r m b n (tag r m j) (next_at r j) w (inr (j, refl, refl, record { inside = h.0.inside; above = (let p = h.0.above in omega arith); chain = h.0.chain })) (let e = left-step r m b low j w h in omega arith))
  where
    by : (v : ℕ) → Names r m b low v → ((j : ℕ) → Names r m b low (suc j) → TagsAscend r m (tag r m j) (walk r m n (next_at r j)) × ((i : ℕ) → Above r m b (tag r m j) i → Among i (walk r m n (next_at r j))))
        → TagsAscend r m low (walk_by (λ j. walk r m n (next_at r j)) v) × ((i : ℕ) → Above r m b low i → Among i (walk_by (λ j. walk r m n (next_at r j)) v))
    by zero h go = (tt, λ i q. h i q)
    by (suc j) h go = let o = go j h in ((h.0.above, o.0), λ i q. here i q (i == j) refl (o.1 i))
      where
        here : (i : ℕ) → Above r m b low i → (t : Bool) → (i == j) ≡ t → (Above r m b (tag r m j) i → Among i (walk r m n (next_at r j))) → (i ≡ j) ⊎ Among i (walk r m n (next_at r j))
        here i q true e g = inl (grind (arith, nat_tests))
        here i q false e g =
            let d : i ≢ j = grind (arith, nat_tests) in
            let le = h.1 i q in
            let ne : tag r m j ≢ tag r m i = λ z. d (sym (w.differ j i h.0.inside q.inside (let p = h.0.above in omega arith) z)) in
            inr (g (record { inside = q.inside; above = omega arith; chain = q.chain }))

-- EACH USED CELL IS REACHED from the head of its key's chain, by tags that ascend
pub reached : (r : Chains) (m : List ℕ) (i : ℕ) → IsChains r m → 0 < r.heads → i < r.cells → 0 < tag r m i
    → Among i (walk r m r.cells (head_of r (less_one (tag r m i)))) × TagsAscend r m 0 (walk r m r.cells (head_of r (less_one (tag r m i))))
reached r m i w some lt pos =
    let b : ℕ = bucket r (less_one (tag r m i)) in
    let x = walks r m b r.cells 0 (r.at + b) w (inl (refl, mod-lt (less_one (tag r m i)) some, refl)) (how_many-most _ r.cells) in
    (x.1 i (record { inside = lt; above = pos; chain = refl }), x.0)
