-- Every list of steps of a promoted attempt keeps its clauses.
use Rattle.std.proofs.Common.{ℕ, sym, subst}
use Rattle.stm_model.specs.declared.alg.Alg.{Alg}
use Rattle.stm_model.specs.declared.config.Config.{Config}
use Rattle.rule_base.proofs.Lemmas.RunLemmas.{keeps-along}
use Rattle.rule_base.specs.StepKinds.{world_after}
use Rattle.rule_base.specs.World.{World}
use Rattle.rule_promoted.proofs.PromotedLaws as direct
use Rattle.rule_promoted.specs.PromotedRule.{DirectWorld}
use Rattle.rule_promoted.specs.PromotedRuns.{DirectStep, direct_kind, DirectMayAs, DirectMay, DirectKeepsAlong}
use Rattle.rule_promoted.specs.PromotedRuns.DirectStep.{loads, stores, commits, releases}
use Rattle.std.specs.Prelude.{◌<◌}

module _ (good : (ℕ → ℕ) → Type 0) (c : Config) (alg : Alg) where
  own_step : (n : ℕ) (s : DirectStep) (w : World) → DirectWorld good c alg n w → n < c.callers → DirectMayAs good c alg n s (w.views n) → DirectWorld good c alg n (world_after (direct_kind alg n s) n w)
  own_step n (loads a) w r low may = (direct.direct_loads good c alg n a w r may).rule
  own_step n (stores a x) w r low may = (direct.direct_stores good c alg n a x w r may).rule
  own_step n (commits time) w r low may = (direct.direct_commits good c alg n time low w r may).rule
  own_step n (releases q time) w r low may = (direct.direct_releases good c alg n q time w r may).rule

  one_step : (m n : ℕ) (s : DirectStep) (w : World) → DirectWorld good c alg m w → DirectMay good c alg m n s (w.views n) → DirectWorld good c alg m (world_after (direct_kind alg n s) n w)
  one_step m n s w r may = subst (λ (k : ℕ). DirectWorld good c alg k (world_after (direct_kind alg n s) n w)) may.0 (own_step n s w (subst (λ (k : ℕ). DirectWorld good c alg k w) (sym may.0) r) may.1 may.2)

  pub direct_keeps_along_lem : (m : ℕ) → DirectKeepsAlong good c alg m
  direct_keeps_along_lem m = keeps-along (direct_kind alg) (DirectMay good c alg m) (DirectWorld good c alg m) (one_step m)
