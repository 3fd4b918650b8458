-- What the calls on chains do to a memory.
use Rattle.std.proofs.Common.{ℕ, zero, suc, ◌≡◌, ◌<◌, ◌≤◌, ◌≢◌, ◌+◌, ◌*◌, List, length, set, Bool, true, false, refl, sym, ap, ◌∙◌, arith}
use Rattle.std.specs.Prelude.{◌==◌, ◌^◌, if◌then◌else◌, Option, Some, None, slice_index}
use Rattle.std.proofs.Math.Nat.{mod-lt}
use Rattle.std.proofs.lemmas.Bool.Decides.{nat_tests}
use Rattle.data_cells.specs.declared.chains.Chains.{Chains}
use Rattle.data_effects.specs.declared.position.Position.{Position}
use Rattle.data_effects.specs.declared.insert.Insert.TheVariants.{Added, Present, NoRoom}
use Rattle.data_effects.specs.Effects.{unchanged, changed}
use Rattle.data_effects.specs.Keys.{has, free_from, less_one}
use Rattle.data_effects.proofs.KeyLaws.{has-yes, free-is}
use Rattle.data_cells.specs.Chains.{tag, tag_at, next_at, keys, IsChains, position_of, unlinked, contained_in, inserted_by, inserted_in, removed_by, removed_in}
use Rattle.data_cells.proofs.ChainLaws.{Found, position-found, has-found}
use Rattle.data_cells.proofs.ChainInserts.{linked-keeps}
use Rattle.data_cells.proofs.ChainRemovals.{unlinked-keeps}

module _ (r : Chains) (m : List ℕ) (key : ℕ) (w : IsChains r m) (some : 0 < r.heads) where
  pub found : Found r m key (position_of r m key)
  found = position-found r m key w (mod-lt key some)

  there : (t : Bool) → ((position_of r m key).tag == suc key) ≡ t → has key (keys r m) ≡ t
  there t q = sym (has-found r m key (position_of r m key) w found) ∙ q

  pub contained : (s : Position) → s ≡ position_of r m key → contained_in r key m ≡ unchanged (s.tag == key + 1) m
  contained s e = let q : key + 1 ≡ suc key = omega arith in let h = there ((position_of r m key).tag == suc key) refl in rw (h, e, q) refl

  pub present : (s : Position) → s ≡ position_of r m key → s.tag ≡ key + 1 → inserted_in r key m ≡ unchanged Present m
  present s e t = let u : (position_of r m key).tag ≡ suc key = ap (λ x. x.tag) (sym e) ∙ (t ∙ (omega arith)) in
      let h = there true (grind (arith, nat_tests)) in rw h refl

  pub no-room : (s : Position) → s ≡ position_of r m key → s.tag ≢ key + 1 → None ≡ free_from (tag r m) 0 r.cells → inserted_in r key m ≡ unchanged NoRoom m
  no-room s e t f = let u : (position_of r m key).tag ≢ suc key = λ x. t (ap (λ y. y.tag) e ∙ (x ∙ (omega arith))) in
      let h = there false (grind (arith, nat_tests)) in rw (h, ← f) refl

  pub added : (s : Position) (c : ℕ) → s ≡ position_of r m key → s.tag ≢ key + 1 → Some c ≡ free_from (tag r m) 0 r.cells
      → inserted_in r key m ≡ changed Added (set (set (set m (tag_at r c) (key + 1)) (next_at r c) s.next) s.link (c + 1))
  added s c e t f = let k : key + 1 ≡ suc key = omega arith in let d : c + 1 ≡ suc c = omega arith in let u : (position_of r m key).tag ≢ suc key = λ x. t (ap (λ y. y.tag) e ∙ (x ∙ (omega arith))) in
      let h = there false (grind (arith, nat_tests)) in rw (h, ← f, e, k, d) refl

  pub absent-stays : (s : Position) → s ≡ position_of r m key → s.tag ≢ key + 1 → removed_in r key m ≡ unchanged false m
  absent-stays s e t = let u : (position_of r m key).tag ≢ suc key = λ x. t (ap (λ y. y.tag) e ∙ (x ∙ (omega arith))) in
      let h = there false (grind (arith, nat_tests)) in rw h refl

  pub removed : (s : Position) (c v : ℕ) → s ≡ position_of r m key → s.tag ≡ key + 1 → s.next ≡ suc c → v ≡ slice_index m (next_at r c) → removed_in r key m ≡ changed true (unlinked r c s.link v m)
  removed s c v e t n z = let u : (position_of r m key).tag ≡ suc key = ap (λ x. x.tag) (sym e) ∙ (t ∙ (omega arith)) in
      let h = there true (grind (arith, nat_tests)) in
      let d : less_one (position_of r m key).next ≡ c = ap (λ x. less_one x.next) (sym e) ∙ ap less_one n in
      rw (h, d, z, e) refl

  absent-tags : has key (keys r m) ≡ false → (i : ℕ) → i < r.cells → tag r m i ≢ suc key
  absent-tags h i lt e = let y = has-yes (tag r m) key r.cells i lt e in absurd cc

  -- INSERTS AND REMOVALS KEEP THE CHAINS WELL FORMED
  pub inserted-keeps : r.at + r.heads + 2 * r.cells ≤ length m → key < 2 ^ 32 → IsChains r (inserted_in r key m).memory
  inserted-keeps room small = by (has key (keys r m)) refl (free_from (tag r m) 0 r.cells) refl
    where
      by : (t : Bool) → has key (keys r m) ≡ t → (o : Option ℕ) → free_from (tag r m) 0 r.cells ≡ o → IsChains r (if t then unchanged Present m else inserted_by r key m o).memory
      by true h o q = w
      by false h None q = w
      by false h (Some c) q = let z = free-is (tag r m) 0 r.cells c q in let lt = z.0 in
          linked-keeps r m key c (position_of r m key) w found room (omega arith) z.1 (absent-tags h) small

  pub removed-keeps : r.at + r.heads + 2 * r.cells ≤ length m → IsChains r (removed_in r key m).memory
  removed-keeps room = by (has key (keys r m)) refl
    where
      by : (t : Bool) → has key (keys r m) ≡ t → IsChains r (if t then removed_by r (position_of r m key) m else unchanged false m).memory
      by false h = w
      by true h = at (position_of r m key).next refl
        where
          u : (position_of r m key).tag ≡ suc key
          u = let q : ((position_of r m key).tag == suc key) ≡ true = has-found r m key (position_of r m key) w found ∙ h in grind (arith, nat_tests)

          at : (n : ℕ) → (position_of r m key).next ≡ n → IsChains r (unlinked r (less_one (position_of r m key).next) (position_of r m key).link (slice_index m (next_at r (less_one (position_of r m key).next))) m)
          at zero e = let z = found.none e in let y = u in absurd (omega arith)
          at (suc c) e = rw e (unlinked-keeps r m key c (position_of r m key) w found room e (sym (found.some c e).0 ∙ u))
