-- What the steps of a fence find.
use Rattle.std.specs.Prelude.{ℕ, ◌≡◌, ◌+◌, ◌≤◌, ◌%◌}
use Rattle.stm_model.specs.declared.alg.Alg.{Alg}
use Rattle.stm_model.specs.declared.alg.Alg.TheVariants.{Tml}
use Rattle.stm_model.specs.declared.config.Config.{Config}
use Rattle.stm_model.specs.declared.config.TheConstants.{CLOCK_LIMIT}
use Rattle.rule_base.specs.declared.views.Phase.TheVariants.{Closing}
use Rattle.rule_base.specs.declared.views.View.{View}
use Rattle.rule_base.specs.History.{upto, Below, Legal}
use Rattle.rule_base.specs.InstallSteps.{CanSettle}
use Rattle.rule_base.specs.World.{World}

-- the history at a fence, of which its caller had seen a part
pub record FindsPast (good : (ℕ → ℕ) → Type 0) (c : Config) (w : World) (v : View) (x : ℕ) : Type 0 where
  pub legal : Legal good c w.history
  pub below : Below w.history (w.clock + 1)
  pub seen : v.history.seen ≡ upto w.history v.history.front
  pub front : v.history.front ≤ w.clock

-- the clock before a give-back is within its limit, and under TML even
abbrev pub FindsEven : Alg → World → View → ℕ → Type 0
FindsEven alg w v x = (x ≤ CLOCK_LIMIT) × (alg ≡ Tml → x % 2 ≡ 0)

-- a caller that is alone with the gate may load the clock to give its range back
pub record CanSettleBack (callers n : ℕ) (alg : Alg) (v : View) : Type 0 where
  pub closing : v.gate.phase ≡ Closing
  pub settle : CanSettle callers n v
  pub named : v.gate.algorithm ≡ alg
