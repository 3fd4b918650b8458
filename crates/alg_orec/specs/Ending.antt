-- The end of an attempt that has no entry.
use Rattle.std.specs.Prelude.{ℕ, ◌≡◌, false, []}
use Rattle.stm_model.specs.declared.config.Config.{Config}
use Rattle.rule_base.specs.declared.views.View.{View}
use Rattle.rule_base.specs.Bridge.{items}
use Rattle.rule_base.specs.History.{Inside}
use Rattle.rule_orec.specs.OrecSteps.{HasOpen}
use Rattle.stm_gate.specs.Leaving.{left}
use Rattle.stm_gate.specs.LeavingLaws.{IsUnmade}
use Rattle.stm_rule.specs.declared.local.Local.{Local}
use Rattle.stm_rule.specs.Attempts.{IsOutside}
use Rattle.alg_orec.specs.Validating.{HasVersions}

-- what it wrote lies with its descriptor, which has the records that it holds
pub record CanAbortLazy (c : Config) (l : Local) (v : View) : Type 0 where
  pub opens : HasOpen v
  pub lazy : v.owned.eager ≡ false
  pub unplaced : v.owned.in_place ≡ []
  pub undone : v.owned.undo ≡ []
  pub repaid : v.owned.back ≡ []
  pub locks : l.locks.items ≡ items v.owned.held
  pub places : Inside c.records v.owned.held
  pub versions : HasVersions l
  -- nothing of it is elsewhere
  pub unlocked : v.lock.taken ≡ false
  pub unfixed : v.lock.irrevocable ≡ false
  pub unwritten : v.tml.writer ≡ false
  pub uncommitted : v.ring_commit.committed ≡ false
  pub unstored : v.attempt.stores ≡ []
  pub unentered : v.attempt.entered ≡ false

-- caller n ended the attempt and left no trace but its steps
pub record GivesUp (n : ℕ) (v w : View) : Type 0 where
  pub outside : IsOutside w
  pub before : View
  pub unmade : IsUnmade v before
  pub rises : before.steps.rises ≡ v.steps.rises
  pub is : w ≡ left n before
