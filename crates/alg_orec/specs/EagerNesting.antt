-- What the parts of a roll back to a mark of OrecEager ask and tell.
use Rattle.std.specs.Prelude.{ℕ, ◌≡◌, true, List, take}
use Rattle.rule_base.specs.declared.views.TracedStep.{TracedStep}
use Rattle.rule_base.specs.declared.views.View.{View}
use Rattle.rule_base.specs.Bridge.{addresses, items}
use Rattle.rule_base.specs.History.{touches, Inside, Small}
use Rattle.rule_orec.specs.OrecSteps.{HasOrec, HasOpen}
use Rattle.stm_answers.specs.Causes.{has_item}
use Rattle.alg_orec.specs.EagerEnding.{restoring, Undoable}

-- these are the old values of the words that the attempt has stored, now or before they were taken back, and these the
-- words that are stored, in their order
pub record CanRestoreAfter (words : ℕ) (us ws : List (ℕ × ℕ)) (v : View) : Type 0 where
  pub has : HasOrec v
  pub undo : us ≡ items v.owned.undo
  pub placed : ws ≡ items v.owned.in_place
  pub undoable : Undoable v
  pub within : Inside words v.owned.undo
  pub small : Small v.owned.in_place

-- of the words stored the first so many are left; the old values of all are kept
pub record RestoresAfter (left : ℕ) (ws : List (ℕ × ℕ)) (v w : View) : Type 0 where
  pub more : List TracedStep
  pub is : w ≡ restoring v w.owned.in_place more
  pub in_place : items w.owned.in_place ≡ take left ws
  pub small : Small w.owned.in_place

-- the words of these items, and no others, are stored, and each may be stored again
pub record CanPlaceAgain (words : ℕ) (ws : List (ℕ × ℕ)) (v : View) : Type 0 where
  pub opens : HasOpen v
  pub eager : v.owned.eager ≡ true
  pub within : Inside words v.owned.undo
  pub placed : addresses ws ≡ addresses (items v.owned.in_place)
  pub undoable : (a : ℕ) → has_item a ws ≡ true → touches v.owned.undo a ≡ true
  pub small : Small v.owned.in_place

-- they have these values
pub record PlacesAgain (ws : List (ℕ × ℕ)) (v w : View) : Type 0 where
  pub more : List TracedStep
  pub is : w ≡ restoring v w.owned.in_place more
  pub in_place : items w.owned.in_place ≡ ws
  pub small : Small w.owned.in_place
