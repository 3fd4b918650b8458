-- Chains in a region: the empty region, and what leaves the region's words.
use Rattle.std.proofs.Common.{ℕ, zero, suc, ◌≡◌, ◌<◌, ◌≤◌, ◌+◌, ◌*◌, List, get_or, set, replicate, Bool, true, false, refl, sym, ◌∙◌, arith, subst, inl, inr}
use Rattle.std.specs.Prelude.{◌⊎◌, ◌==◌, if◌then◌else◌, Option, Some, None, slice_index}
use Rattle.std.proofs.lemmas.Bool.Decides.{nat_tests}
use Rattle.data_cells.specs.declared.chains.Chains.{Chains}
use Rattle.data_effects.specs.declared.insert.Insert.TheVariants.{Present}
use Rattle.data_effects.specs.Effects.{unchanged}
use Rattle.data_effects.specs.Keys.{has, free_from, less_one}
use Rattle.data_effects.specs.EffectLaws.{zero-at}
use Rattle.data_effects.proofs.KeyLaws.{free-is}
use Rattle.data_cells.specs.Chains.{tag, tag_at, next_at, bucket, keys, Above, LinkOf, Names, IsChains, position_of, inserted_by, inserted_in, removed_by, removed_in}
use Rattle.data_cells.proofs.ChainLaws.{Found, has-found}
use Rattle.data_cells.proofs.ChainOrder.{three-other}
use Rattle.data_cells.proofs.ChainEffects.{found}

-- the memory of zeros has every chain, empty
pub zeros-chains : (r : Chains) (n : ℕ) → IsChains r (replicate n 0)
zeros-chains r n = record {
  names = λ b low a l. subst (Names r (replicate n 0) b low) (sym (zero-at n a)) (λ k h. let z = zero-at n (tag_at r k) in let p = h.above in absurd (omega arith));
  differ = λ i j il jl pos e. let z = zero-at n (tag_at r i) in absurd (omega arith);
  spare = λ i lt z. zero-at n (next_at r i);
  small = λ i lt. let z = zero-at n (tag_at r i) in omega arith;
}

-- what leaves the words of the region leaves its chains
module _ (r : Chains) (m k : List ℕ) (w : IsChains r m) (same : (x : ℕ) → r.at ≤ x → x < r.at + r.heads + 2 * r.cells → slice_index k x ≡ slice_index m x) where
  tags : (i : ℕ) → i < r.cells → tag r k i ≡ tag r m i
  tags i lt = same (tag_at r i) (omega arith) (omega arith)

  above-old : (b low i : ℕ) → Above r k b low i → Above r m b low i
  above-old b low i h = let t = tags i h.inside in record { inside = h.inside; above = subst (λ x. low < x) t h.above; chain = subst (λ x. bucket r (less_one x) ≡ b) t h.chain }

  above-new : (b low i : ℕ) → Above r m b low i → Above r k b low i
  above-new b low i h = let t = sym (tags i h.inside) in record { inside = h.inside; above = subst (λ x. low < x) t h.above; chain = subst (λ x. bucket r (less_one x) ≡ b) t h.chain }

  names-new : (b low v : ℕ) → Names r m b low v → Names r k b low v
  names-new b low zero n = λ i h. n i (above-old b low i h)
  names-new b low (suc j) n = (above-new b low j n.0, λ i h. let x = above-old b low i h in let le = n.1 i x in let t = tags i x.inside in let u = tags j n.0.inside in omega arith)

  pub chains-same : IsChains r k
  chains-same = record {
    names = names;
    differ = λ i j il jl pos e. let t = tags i il in let u = tags j jl in w.differ i j il jl (omega arith) (omega arith);
    spare = λ i lt z. same (next_at r i) (omega arith) (omega arith) ∙ w.spare i lt (sym (tags i lt) ∙ z);
    small = λ i lt. let t = tags i lt in let s = w.small i lt in omega arith;
  }
    where
      names : (b low a : ℕ) → LinkOf r k b low a → Names r k b low (slice_index k a)
      names b low a (inl x) = let p = x.0 in let lt = x.1 in subst (Names r k b low) (sym (same a (omega arith) (omega arith))) (names-new b low (slice_index m a) (w.names b low a (inl x)))
      names b low a (inr (i, p, q, h)) = let o = above-old b 0 i h in let lt = h.inside in
          subst (Names r k b low) (sym (same a (omega arith) (omega arith))) (names-new b low (slice_index m a) (w.names b low a (inr (i, p, q ∙ tags i o.inside, o))))

link-place : (r : Chains) (m : List ℕ) (b low a : ℕ) → LinkOf r m b low a → (r.at ≤ a) × (a < r.at + r.heads + 2 * r.cells)
link-place r m b low a (inl x) = let p = x.0 in let lt = x.1 in (omega arith, omega arith)
link-place r m b low a (inr x) = let p = x.1 in let lt = x.3.inside in (omega arith, omega arith)

-- an insert leaves the words outside the region
pub inserted-outside : (r : Chains) (m : List ℕ) (key x : ℕ) → IsChains r m → 0 < r.heads → (x < r.at) ⊎ (r.at + r.heads + 2 * r.cells ≤ x) → get_or (inserted_in r key m).memory x 0 ≡ get_or m x 0
inserted-outside r m key x w some out = by (has key (keys r m)) (free_from (tag r m) 0 r.cells) refl
  where
    by : (t : Bool) (o : Option ℕ) → free_from (tag r m) 0 r.cells ≡ o → get_or (if t then unchanged Present m else inserted_by r key m o).memory x 0 ≡ get_or m x 0
    by true o q = refl
    by false None q = refl
    by false (Some c) q =
        let z = (free-is (tag r m) 0 r.cells c q).0 in
        let f = found r m key w some in
        let l = link-place r m (bucket r key) f.low (position_of r m key).link f.link in
        let ll = l.0 in let lh = l.1 in
        apart c (omega arith) ll lh out
      where
        apart : (c : ℕ) → c < r.cells → r.at ≤ (position_of r m key).link → (position_of r m key).link < r.at + r.heads + 2 * r.cells → (x < r.at) ⊎ (r.at + r.heads + 2 * r.cells ≤ x)
            → get_or (set (set (set m (tag_at r c) (suc key)) (next_at r c) (position_of r m key).next) (position_of r m key).link (suc c)) x 0 ≡ get_or m x 0
        apart c lt a b (inl o) = three-other m (tag_at r c) (suc key) (next_at r c) (position_of r m key).next (position_of r m key).link (suc c) x (λ e. absurd (omega arith)) (λ e. absurd (omega arith)) (λ e. absurd (omega arith))
        apart c lt a b (inr o) = three-other m (tag_at r c) (suc key) (next_at r c) (position_of r m key).next (position_of r m key).link (suc c) x (λ e. absurd (omega arith)) (λ e. absurd (omega arith)) (λ e. absurd (omega arith))

-- nor does a removal change them
pub removed-outside : (r : Chains) (m : List ℕ) (key x : ℕ) → IsChains r m → 0 < r.heads → (x < r.at) ⊎ (r.at + r.heads + 2 * r.cells ≤ x) → get_or (removed_in r key m).memory x 0 ≡ get_or m x 0
removed-outside r m key x w some out = by (has key (keys r m)) refl
  where
    f : Found r m key (position_of r m key)
    f = found r m key w some

    by : (t : Bool) → has key (keys r m) ≡ t → get_or (if t then removed_by r (position_of r m key) m else unchanged false m).memory x 0 ≡ get_or m x 0
    by false h = refl
    by true h = at (position_of r m key).next refl
      where
        u : (position_of r m key).tag ≡ suc key
        u = let q : ((position_of r m key).tag == suc key) ≡ true = has-found r m key (position_of r m key) w f ∙ h in grind (arith, nat_tests)

        at : (n : ℕ) → (position_of r m key).next ≡ n → get_or (removed_by r (position_of r m key) m).memory x 0 ≡ get_or m x 0
        at zero e = let z = f.none e in let y = u in absurd (omega arith)
        at (suc c) e =
            let a = (position_of r m key).link in
            let names : Names r m (bucket r key) f.low (suc c) = subst (Names r m (bucket r key) f.low) (f.word ∙ e) (w.names (bucket r key) f.low a f.link) in
            let l = link-place r m (bucket r key) f.low a f.link in
            rw e (apart c names.0.inside l.0 l.1 out)
          where
            apart : (c : ℕ) → c < r.cells → r.at ≤ (position_of r m key).link → (position_of r m key).link < r.at + r.heads + 2 * r.cells → (x < r.at) ⊎ (r.at + r.heads + 2 * r.cells ≤ x)
                → get_or (set (set (set m (position_of r m key).link (slice_index m (next_at r c))) (tag_at r c) 0) (next_at r c) 0) x 0 ≡ get_or m x 0
            apart c lt a b (inl o) = three-other m (position_of r m key).link (slice_index m (next_at r c)) (tag_at r c) 0 (next_at r c) 0 x (λ e. absurd (omega arith)) (λ e. absurd (omega arith)) (λ e. absurd (omega arith))
            apart c lt a b (inr o) = three-other m (position_of r m key).link (slice_index m (next_at r c)) (tag_at r c) 0 (next_at r c) 0 x (λ e. absurd (omega arith)) (λ e. absurd (omega arith)) (λ e. absurd (omega arith))
