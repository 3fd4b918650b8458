-- Which reads a validation has to look at: a record that the attempt holds vouches for its words itself, where the
-- version that it replaced is at most the start.
use Rattle.std.proofs.Common.{◌≡◌, ℕ, ◌≤◌, List, [], ◌∷◌, Bool, true, false, arith, refl, sym, ap, ◌∙◌}
use Rattle.std.specs.Prelude.{if◌then◌else◌, nat_le}
use Rattle.std.proofs.lemmas.Bool.Decides.{nat_tests}
use Rattle.rule_base.specs.declared.entries.Cell.{Cell}
use Rattle.rule_base.specs.declared.views.View.{View}
use Rattle.rule_base.specs.History.{over, touches}
use Rattle.rule_orec.specs.OrecSteps.{HasOpen, CanOrecClock}

module _ (home : ℕ → ℕ) where
  -- the caller holds the record of a, in the place of a version that its start has seen
  abbrev pub is_vouched : View → ℕ → Bool
  is_vouched v a = if touches v.owned.held (home a) then nat_le (over v.owned.held (home a) 0) v.attempt.start else false

  abbrev pub unvouched : View → List Cell → List Cell
  unvouched v [] = []
  unvouched v (x ∷ xs) = if is_vouched v x.at then unvouched v xs else x ∷ unvouched v xs

  -- the reads whose records are to be loaded, or for which none vouches
  abbrev pub to_validate : View → List Cell
  to_validate v = unvouched v v.attempt.reads

  pub touches-unvouched : (v : View) (xs : List Cell) (a : ℕ) → touches (unvouched v xs) a ≡ (if is_vouched v a then false else touches xs a)
  touches-unvouched v [] a = both (is_vouched v a)
    where
      both : (b : Bool) → false ≡ (if b then false else false)
      both true = refl
      both false = refl
  touches-unvouched v (x ∷ xs) a = grind (arith, nat_tests, touches-unvouched v xs a)

  -- that is all that the load of the clock asks
  pub can-validate : (v : View) → HasOpen v → CanOrecClock home (to_validate v) v
  can-validate v opens = record {
    opens = opens;
    mine = λ a read free. (by a read free).0;
    old = λ a read free. (by a read free).1;
  }
    where
      by : (a : ℕ) → touches v.attempt.reads a ≡ true → touches (to_validate v) a ≡ false → (touches v.owned.held (home a) ≡ true) × (over v.owned.held (home a) 0 ≤ v.attempt.start)
      by a read free = go (touches v.owned.held (home a)) refl (nat_le (over v.owned.held (home a) 0) v.attempt.start) refl
          (sym (ap (λ (t : Bool). if is_vouched v a then false else t) read) ∙ (sym (touches-unvouched v v.attempt.reads a) ∙ free))
        where
          go : (h : Bool) → touches v.owned.held (home a) ≡ h → (o : Bool) → nat_le (over v.owned.held (home a) 0) v.attempt.start ≡ o
              → (if (if h then o else false) then false else true) ≡ false
              → (touches v.owned.held (home a) ≡ true) × (over v.owned.held (home a) 0 ≤ v.attempt.start)
          go true p true q e = (p, grind (arith, nat_tests))
          go true p false q e = absurd cc
          go false p true q e = absurd cc
          go false p false q e = absurd cc
