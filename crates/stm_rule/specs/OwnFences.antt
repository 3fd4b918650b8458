-- What a token keeps of its caller's own range.
use Rattle.std.specs.Prelude.{◌≡◌, ◌≢◌, ◌==◌, not, Bool, true, false, []}
use Rattle.rule_base.specs.declared.views.FenceView.{FenceView}
use Rattle.stm_rule.specs.Runs.CoreRuns.{CoreStep}
use Rattle.stm_rule.specs.Runs.CoreRuns.CoreStep.{fences, fence_stores, fence_commits, unfences}
use Rattle.stm_rule.specs.declared.stm.OwnFence.{OwnFence}

-- what is kept is so: which range the caller has, and whether it stored there
pub record IsOwnFence (own : OwnFence) (f : FenceView) : Type 0 where
  pub number : f.number ≡ own.number
  pub held : f.holds ≡ not (own.number == 0)
  pub clean : own.stored ≡ false → f.stores ≡ []
  pub dirty : own.stored ≡ true → f.stores ≢ []

-- the step takes a range, stores there, commits what was stored, or gives the range back
abbrev pub moves_fence : CoreStep → Bool
moves_fence (fences from count alg) = true
moves_fence (fence_stores a x) = true
moves_fence (fence_commits alg time) = true
moves_fence (unfences alg) = true
moves_fence step = false
