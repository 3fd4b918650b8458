-- What looks at other callers come to, by a caller that holds the gate.
use Rattle.std.specs.Prelude.{ℕ, ◌≡◌, ◌≢◌, ◌+◌, ◌++◌, List, true}
use Rattle.rule_base.specs.declared.layout.At.TheVariants.{Status}
use Rattle.rule_base.specs.declared.views.TracedStep.{TracedStep}
use Rattle.rule_base.specs.declared.views.View.{View}
use Rattle.rule_base.specs.History.{member}
use Rattle.rule_base.specs.InstallSteps.{HasChecked}
use Rattle.stm_model.specs.declared.config.Config.{Config}
use Rattle.stm_rule.specs.Attempts.{HasLooked}
use Rattle.stm_rule.specs.Callers.{idle_own}
use Rattle.stm_answers.specs.declared.answers.Look.{Look}
use Rattle.stm_answers.specs.declared.answers.Look.TheVariants as looks
use Rattle.stm_answers.specs.Answers.{OfUnseen, IsBusy}
use Rattle.stm_answers.specs.Evidence.{Found}
use Rattle.stm_answers.specs.CallerState.{known_of}

-- the view with these callers seen idle, and with this step trace
abbrev pub looked : View → List ℕ → List TracedStep → View
looked v checked step_trace = record v { gate = record v.gate { checked = checked }; steps = record v.steps { step_trace = step_trace } }

-- some looks took place: only callers not yet seen idle were looked at, none seen is forgotten, and nothing else
-- changed
pub record LooksOn (v w : View) : Type 0 where
  pub checked : List ℕ
  pub more : List TracedStep
  pub is : w ≡ looked v checked (more ++ v.steps.step_trace)
  pub kept : (k : ℕ) → member v.gate.checked k ≡ true → member checked k ≡ true
  pub unseen : OfUnseen v.gate.checked more

module _ (c : Config) (n : ℕ) where
  -- what a look of n at k found: status 0, and k counts as seen; or another caller that is not idle
  pub record Finds (k status : ℕ) (v w : View) : Type 0 where
    pub idle : status ≡ 0 → HasLooked c.callers n (k + 1) w
    pub busy : status ≢ 0 → (k ≢ n) × HasLooked c.callers n k w × Found (Status k) status (known_of v (idle_own c)) (known_of w (idle_own c))

  -- what the looks of n came to
  module _ (good : List ℕ → Type 0) where
    abbrev pub LooksUntil : Look → View → View → Type 0
    LooksUntil looks.Quiet v w = LooksOn v w × HasChecked c.callers n w
    LooksUntil (looks.Busy caller status) v w = LooksOn v w × IsBusy good c n caller status (known_of v (idle_own c)) (known_of w (idle_own c))
