-- What the parts of a rollback of OrecEager ask and tell.
use Rattle.std.specs.Prelude.{ℕ, ◌≡◌, ◌+◌, ◌<◌, ◌≤◌, ◌++◌, true, false, List, [], length, Some}
use Rattle.stm_model.specs.declared.config.Config.{Config}
use Rattle.stm_model.specs.declared.config.TheConstants.{CLOCK_LIMIT}
use Rattle.stm_model.specs.Memories.{item_at}
use Rattle.rule_base.specs.declared.entries.Cell.{Cell}
use Rattle.rule_base.specs.declared.views.Ownership.{Ownership}
use Rattle.rule_base.specs.declared.views.TracedStep.{TracedStep}
use Rattle.rule_base.specs.declared.views.View.{View}
use Rattle.rule_base.specs.Bridge.{items}
use Rattle.rule_base.specs.History.{over, touches, Inside}
use Rattle.rule_orec.specs.OrecSteps.{HasOrec, HasOpen}
use Rattle.stm_gate.specs.Leaving.{left}
use Rattle.stm_gate.specs.LeavingLaws.{IsUnmade}
use Rattle.stm_rule.specs.declared.local.Local.{Local}
use Rattle.stm_rule.specs.Attempts.{IsOutside}

-- what the words were is in the undo log wherever the attempt stored, and may be there of stores that were taken back
abbrev pub Undoable : View → Type 0
Undoable v = (a : ℕ) → touches v.owned.in_place a ≡ true → touches v.owned.undo a ≡ true

-- the descriptor has what the words were where the attempt stored
pub record CanRestoreAll (c : Config) (l : Local) (v : View) : Type 0 where
  pub has : HasOrec v
  pub undo : l.undo.items ≡ items v.owned.undo
  pub undoable : Undoable v
  pub words : Inside c.words v.owned.undo

-- the view with these values in place, and with these steps added
abbrev pub restoring : View → List Cell → List TracedStep → View
restoring v in_place more = record v { owned = record v.owned { in_place = in_place }; steps = record v.steps { step_trace = more ++ v.steps.step_trace } }

-- the words are as they were
pub record RestoresAll (v w : View) : Type 0 where
  pub more : List TracedStep
  pub is : w ≡ restoring v [] more

-- none of the items has a greater value, and where there is one, one has this
abbrev pub IsNewest : ℕ → List (ℕ × ℕ) → Type 0
IsNewest x ws = ((r version : ℕ) → item_at r ws ≡ Some version → version ≤ x) × (0 < length ws → (r : ℕ) × (item_at r ws ≡ Some x))

-- each record that is held was free at a version below this number
abbrev pub AllBelow : ℕ → List Cell → Type 0
AllBelow limit held = (r : ℕ) → touches held r ≡ true → over held r 0 < limit

-- the words are as they were, and the clock is above the versions that the records had
pub record CanReleaseAbove (c : Config) (l : Local) (v : View) : Type 0 where
  pub has : HasOrec v
  pub open_yet : v.owned.committed ≡ false
  pub raised : v.owned.raised ≡ true
  pub repaid : v.owned.back ≡ []
  pub undone : v.owned.undo ≡ []
  pub locks : l.locks.items ≡ items v.owned.held
  pub places : Inside c.records v.owned.held
  pub below : AllBelow CLOCK_LIMIT v.owned.held

-- the attempt has no entry, and its descriptor has the records that it holds and what the words were where it stored
pub record CanGiveBack (c : Config) (l : Local) (v : View) : Type 0 where
  pub opens : HasOpen v
  pub repaid : v.owned.back ≡ []
  pub undo : l.undo.items ≡ items v.owned.undo
  pub undoable : Undoable v
  pub words : Inside c.words v.owned.undo
  pub locks : l.locks.items ≡ items v.owned.held
  pub places : Inside c.records v.owned.held
  pub below : AllBelow CLOCK_LIMIT v.owned.held
  -- who knows the clock as the gate's holder took its records before
  pub earlier : v.gate.quiescent ≡ true → AllBelow v.gate.time v.owned.held

-- no record is held any more; where some were, the clock may have been raised by one
pub record GivesBack (v w : View) : Type 0 where
  pub owned : Ownership
  pub rises : ℕ
  pub more : List TracedStep
  pub is : w ≡ record v { owned = owned; steps = record v.steps { rises = rises; step_trace = more ++ v.steps.step_trace } }
  pub handed : owned.held ≡ []
  pub rose : (v.steps.rises ≤ rises) × (rises ≤ v.steps.rises + 1)
  pub level : v.owned.held ≡ [] → rises ≡ v.steps.rises

-- and nothing of the attempt is elsewhere
pub record CanAbortEager (c : Config) (l : Local) (v : View) : Type 0 where
  pub gives : CanGiveBack c l v
  pub unlocked : v.lock.taken ≡ false
  pub unfixed : v.lock.irrevocable ≡ false
  pub unwritten : v.tml.writer ≡ false
  pub uncommitted : v.ring_commit.committed ≡ false
  pub unstored : v.attempt.stores ≡ []
  pub unentered : v.attempt.entered ≡ false

-- caller n ended the attempt without an entry
pub record AbortsEager (n : ℕ) (v w : View) : Type 0 where
  pub outside : IsOutside w
  pub before : View
  pub unmade : IsUnmade v before
  pub rose : (v.steps.rises ≤ before.steps.rises) × (before.steps.rises ≤ v.steps.rises + 1)
  pub level : v.owned.held ≡ [] → before.steps.rises ≡ v.steps.rises
  pub is : w ≡ left n before
