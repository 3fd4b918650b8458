-- The part of the one rule that a step of an attempt changes, R being the clauses of what runs.
use Rattle.std.specs.Prelude.{ℕ}
use Rattle.stm_model.specs.declared.config.Config.{Config}
use Rattle.rule_base.specs.HistoryRule.{HistoryRule, history_projection}
use Rattle.rule_base.specs.RecordRule.{RecordRule, record_projection}
use Rattle.rule_base.specs.RunProjection.{RunProjection, run_projection}
use Rattle.rule_base.specs.StepsRule.{StepsRule, steps_projection}
use Rattle.rule_base.specs.World.{World}
use Rattle.rule_seq.specs.AttemptRule.{AttemptRule, attempt_projection}
use Rattle.rule_seq.specs.LockRule.{LockRule, lock_projection}

pub record RunWorld (R : RunProjection → Type 0) (good : (ℕ → ℕ) → Type 0) (c : Config) (w : World) : Type 0 where
  pub history : HistoryRule good c (history_projection w)
  pub steps : StepsRule c (steps_projection w)
  pub records : RecordRule (record_projection w)
  pub lock : LockRule (lock_projection w)
  pub attempts : AttemptRule (attempt_projection w)
  pub runs : R (run_projection w)
