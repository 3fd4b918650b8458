-- Lists of steps of a promoted attempt on the heap, by a number and by its entry.
use Rattle.std.specs.Prelude.{ℕ, ◌≡◌, ◌<◌}
use Rattle.stm_model.specs.declared.alg.Alg.{Alg}
use Rattle.stm_model.specs.declared.config.Config.{Config}
use Rattle.rule_base.specs.declared.views.View.{View}
use Rattle.rule_base.specs.Runs.{KeepsAlong}
use Rattle.rule_base.specs.StepKinds.{StepKind}
use Rattle.rule_promoted.specs.PromotedRule.{DirectWorld}
use Rattle.rule_promoted.specs.PromotedSteps.{direct_load, CanDirectLoad, direct_store, CanDirectStore, direct_commit, CanDirectCommit, direct_release, CanDirectRelease}

pub data DirectStep : Type 0 where
  loads : (a : ℕ) → DirectStep
  stores : (a x : ℕ) → DirectStep
  commits : (time : ℕ) → DirectStep
  releases : (r time : ℕ) → DirectStep

abbrev pub direct_kind : Alg → ℕ → DirectStep → StepKind
direct_kind alg n (loads a) = direct_load a
direct_kind alg n (stores a x) = direct_store a x
direct_kind alg n (commits time) = direct_commit n alg time
direct_kind alg n (releases r time) = direct_release r time

module _ (good : (ℕ → ℕ) → Type 0) (c : Config) (alg : Alg) (m : ℕ) where
  abbrev pub DirectMayAs : DirectStep → View → Type 0
  DirectMayAs (loads a) v = CanDirectLoad c.words a v
  DirectMayAs (stores a x) v = CanDirectStore c.words a x v
  DirectMayAs (commits time) v = CanDirectCommit good alg time v
  DirectMayAs (releases r time) v = CanDirectRelease r time v

  -- caller m, which is promoted, takes the step where its view allows it
  abbrev pub DirectMay : ℕ → DirectStep → View → Type 0
  DirectMay n s v = (n ≡ m) × (n < c.callers) × DirectMayAs s v

  -- whatever such steps it takes, each allowed where it comes, the clauses of a promoted attempt hold after each
  abbrev pub DirectKeepsAlong : Type 0
  DirectKeepsAlong = KeepsAlong (direct_kind alg) DirectMay (DirectWorld good c alg m)
