-- What inserts and removals do to the contents of chains, and what they leave.
use Rattle.std.proofs.Common.{ℕ, zero, suc, ◌≡◌, ◌<◌, ◌≤◌, ◌≢◌, ◌+◌, ◌*◌, List, length, Bool, true, false, refl, sym, ap, ◌∙◌, arith, subst}
use Rattle.std.specs.Prelude.{◌==◌, if◌then◌else◌, Option, Some, None, slice_index}
use Rattle.std.proofs.lemmas.Bool.Decides.{nat_tests}
use Rattle.data_cells.specs.declared.chains.Chains.{Chains}
use Rattle.data_effects.specs.declared.insert.Insert.TheVariants.{Present}
use Rattle.data_effects.specs.Effects.{unchanged}
use Rattle.data_effects.specs.Keys.{has, keys_after, with_key, without_key, with_tag, free_from}
use Rattle.data_effects.proofs.KeyLaws.{free-is, keys-set, without-with, without-none}
use Rattle.data_cells.specs.Chains.{tag, tag_at, next_at, bucket, keys, Names, IsChains, position_of, linked, unlinked, inserted_by, inserted_in, removed_by, removed_in}
use Rattle.data_cells.proofs.ChainLaws.{Found, has-found}
use Rattle.data_cells.proofs.ChainOrder.{link-inside, three-other, three-second, three-first}
use Rattle.data_cells.proofs.ChainEffects.{found}

module _ (r : Chains) (m : List ℕ) (key : ℕ) (w : IsChains r m) (some : 0 < r.heads) (room : r.at + r.heads + 2 * r.cells ≤ length m) where
  f : Found r m key (position_of r m key)
  f = found r m key w some

  off : ((j : ℕ) → (position_of r m key).link ≢ tag_at r j) × ((position_of r m key).link < r.at + r.heads + 2 * r.cells)
  off = link-inside r m (bucket r key) f.low (position_of r m key).link f.link

  pub inserted-keys : keys r (inserted_in r key m).memory ≡ keys_after (inserted_in r key m).reply key (keys r m)
  inserted-keys = by (has key (keys r m)) (free_from (tag r m) 0 r.cells) refl
    where
      by : (t : Bool) (o : Option ℕ) → free_from (tag r m) 0 r.cells ≡ o → keys r (if t then unchanged Present m else inserted_by r key m o).memory ≡ keys_after (if t then unchanged Present m else inserted_by r key m o).reply key (keys r m)
      by true o q = refl
      by false None q = refl
      by false (Some c) q =
          let z = free-is (tag r m) 0 r.cells c q in
          let a = (position_of r m key).link in
          let v = (position_of r m key).next in
          let lt = z.0 in
          let o = off in
          let new : tag r (linked r key c a v m) c ≡ suc key = three-first m (tag_at r c) (suc key) (next_at r c) v a (suc c) (omega arith) (λ e. absurd (omega arith)) (λ e. o.0 c (sym e)) in
          keys-set (tag r m) (tag r (linked r key c a v m)) c r.cells
          (λ i l d. three-other m (tag_at r c) (suc key) (next_at r c) v a (suc c) (tag_at r i) (λ e. d (omega arith)) (λ e. absurd (omega arith)) (λ e. o.0 i (sym e))) (omega arith) z.1
          ∙ ap (λ t. with_tag t (keys r m)) new

  pub removed-keys : keys r (removed_in r key m).memory ≡ without_key key (keys r m)
  removed-keys = by (has key (keys r m)) refl
    where
      by : (t : Bool) → has key (keys r m) ≡ t → keys r (if t then removed_by r (position_of r m key) m else unchanged false m).memory ≡ without_key key (keys r m)
      by false h = sym (without-none key (keys r m) h)
      by true h = at (position_of r m key).next refl
        where
          u : (position_of r m key).tag ≡ suc key
          u = let q : ((position_of r m key).tag == suc key) ≡ true = has-found r m key (position_of r m key) w f ∙ h in grind (arith, nat_tests)

          at : (n : ℕ) → (position_of r m key).next ≡ n → keys r (removed_by r (position_of r m key) m).memory ≡ without_key key (keys r m)
          at zero e = let z = f.none e in let y = u in absurd (omega arith)
          at (suc c) e =
              let a = (position_of r m key).link in
              let v = slice_index m (next_at r c) in
              let k : List ℕ = unlinked r c a v m in
              let names : Names r m (bucket r key) f.low (suc c) = subst (Names r m (bucket r key) f.low) (f.word ∙ e) (w.names (bucket r key) f.low a f.link) in
              let lt = names.0.inside in
              let o = off in
              let tc : tag r m c ≡ suc key = sym (f.some c e).0 ∙ u in
              let zero' : tag r k c ≡ 0 = three-second m a v (tag_at r c) 0 (next_at r c) 0 (omega arith) (λ e. absurd (omega arith)) in
              let back : keys r m ≡ with_tag (tag r m c) (keys r k) = keys-set (tag r k) (tag r m) c r.cells
              (λ i l d. sym (three-other m a v (tag_at r c) 0 (next_at r c) 0 (tag_at r i) (λ e. o.0 i (sym e)) (λ e. d (omega arith)) (λ e. absurd (omega arith)))) lt zero' in
              let ks : keys r m ≡ with_key key (keys r k) = back ∙ ap (λ t. with_tag t (keys r k)) tc in
              let done : keys r k ≡ without_key key (keys r m) = sym (without-with key (keys r k)) ∙ ap (without_key key) (sym ks) in
              rw e done
