-- No step lets the stamp of a record fall, whatever runs.
use Rattle.std.specs.Prelude.{ℕ, ◌≤◌}
use Rattle.stm_model.specs.declared.config.Config.{Config}
use Rattle.rule_base.specs.StepKinds.{world_after}
use Rattle.rule_base.specs.World.{World}
use Rattle.rule_orec.specs.OrecRule.{orec_projection, stamp}
use Rattle.stm_rule.specs.Runs.CoreRuns.{CoreStep, core_kind, CoreMay}
use Rattle.stm_rule.specs.Product.{Invariant}

abbrev pub CoreStamps : ((ℕ → ℕ) → Type 0) → Config → Type 0
CoreStamps good c = (n : ℕ) (s : CoreStep) (w : World) → Invariant good c w → CoreMay good c n s (w.views n) → (r : ℕ) → stamp (orec_projection w) r ≤ stamp (orec_projection (world_after (core_kind n s) n w)) r
