-- What a try of an attempt to be alone comes to.
use Rattle.std.specs.Prelude.{ℕ, ◌≡◌, ◌<◌, ◌++◌, Option, Some, None, true, List}
use Rattle.rule_base.specs.declared.layout.At.TheVariants.{Gate, Record}
use Rattle.rule_base.specs.declared.views.GateView.{GateView}
use Rattle.rule_base.specs.declared.views.TracedStep.{TracedStep}
use Rattle.rule_base.specs.declared.views.View.{View}
use Rattle.rule_base.specs.Encodings.{holder_of}
use Rattle.stm_model.specs.declared.config.Config.{Config}
use Rattle.stm_rule.specs.Callers.{idle_own}
use Rattle.stm_gate.specs.declared.promote.Promotion.{Promotion}
use Rattle.stm_gate.specs.declared.promote.Promotion.TheVariants as promotes
use Rattle.stm_answers.specs.Answers.{Waits, SeesQuiet, IsBusy}
use Rattle.stm_answers.specs.Causes.{NamesOther}
use Rattle.stm_answers.specs.Evidence.{Found, Untouched}
use Rattle.stm_answers.specs.CallerState.{CallerState, known_of}

-- the attempt holds the gate; nothing changed but what it knows of it, and the step trace
pub record TakesGate (v w : View) : Type 0 where
  pub gate : GateView
  pub more : List TracedStep
  pub is : w ≡ record v { gate = gate; steps = record v.steps { step_trace = more ++ v.steps.step_trace } }
  pub holds : gate.holds ≡ true
  pub phase : gate.phase ≡ v.gate.phase
  pub algorithm : gate.algorithm ≡ v.gate.algorithm
  pub fence : gate.fence ≡ v.gate.fence
  pub granted : gate.granted ≡ v.gate.granted
  -- no step was on a record
  pub spares : (r : ℕ) → Untouched (Record r) more

-- between the two no own step was on a record
abbrev pub SparesRecords : CallerState → CallerState → Type 0
SparesRecords v w = (more : List TracedStep) × (w.step_trace ≡ more ++ v.step_trace) × ((r : ℕ) → Untouched (Record r) more)

module _ (c : Config) (n : ℕ) where
  -- the attempt holds the gate; or another caller does, and nothing changed but the step trace
  abbrev pub ClosesFor : Option ℕ → View → View → Type 0
  ClosesFor None v w = TakesGate v w
  ClosesFor (Some gate) v w =
      ((more : List TracedStep) × (w ≡ record v { steps = record v.steps { step_trace = more ++ v.steps.step_trace } }))
      × Found Gate gate (known_of v (idle_own c)) (known_of w (idle_own c)) × NamesOther c n (holder_of gate) × (1 < c.callers)

  -- what `promote` tells
  module _ (good : List ℕ → Type 0) where
    abbrev pub Promotes : Promotion → CallerState → CallerState → Type 0
    Promotes promotes.Alone v w = Waits good c n v w × (w.holds ≡ true) × SeesQuiet good c n w × SparesRecords v w
    Promotes (promotes.Busy caller status) v w = Waits good c n v w × (w.holds ≡ true) × IsBusy good c n caller status v w
    Promotes (promotes.Taken gate) v w = Waits good c n v w × (w.holds ≡ v.holds) × (w.checked ≡ v.checked) × Found Gate gate v w × NamesOther c n (holder_of gate) × (1 < c.callers)
