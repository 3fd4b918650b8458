-- What a call's own steps show: the items that it adds to the step trace are the evidence of its answer.
use Rattle.std.specs.Prelude.{ℕ, ◌≡◌, ◌≢◌, ◌==◌, Bool, true, false, List, [], ◌∷◌, ◌++◌, Contains, Option, Some, None}
use Rattle.rule_base.specs.declared.layout.At.{At}
use Rattle.rule_base.specs.declared.layout.At.TheVariants.{Clock}
use Rattle.rule_base.specs.declared.views.Act.{Act}
use Rattle.rule_base.specs.declared.views.Act.TheVariants.{Load, Store, Exchange, Raise}
use Rattle.rule_base.specs.declared.views.TracedStep.{TracedStep}
use Rattle.stm_answers.specs.CallerState.{CallerState}

-- a step between the two found this number at this place
abbrev pub Found : At → ℕ → CallerState → CallerState → Type 0
Found place n v w = (more : List TracedStep) × (w.step_trace ≡ more ++ v.step_trace) × (act : Act) × Contains more (record { place = place; act = act; found = Some n })

-- where these steps found the clock, it was this
abbrev pub ClocksAre : ℕ → List TracedStep → Type 0
ClocksAre n [] = Unit {0}
ClocksAre n (i ∷ is) = (i.place ≡ Clock → i.found ≡ Some n) × ClocksAre n is

-- where the steps between the two found the clock, it was the start
abbrev pub FindsStart : CallerState → CallerState → Type 0
FindsStart v w = (more : List TracedStep) × (w.step_trace ≡ more ++ v.step_trace) × ClocksAre v.start more

-- an exchange between the two found the number that it wanted, and stored this one
abbrev pub Exchanged : At → ℕ → ℕ → CallerState → CallerState → Type 0
Exchanged place old new v w = (more : List TracedStep) × (w.step_trace ≡ more ++ v.step_trace) × Contains more (record { place = place; act = Exchange old new; found = Some old })

-- an exchange between the two wanted a number, and found another one
abbrev pub Refused : At → ℕ → ℕ → CallerState → CallerState → Type 0
Refused place wanted n v w = (wanted ≢ n) × (more : List TracedStep) × (w.step_trace ≡ more ++ v.step_trace) × (new : ℕ) × Contains more (record { place = place; act = Exchange wanted new; found = Some n })

-- the step changed its word
abbrev pub took : ℕ → Option ℕ → Bool
took wanted None = false
took wanted (Some n) = n == wanted

abbrev pub changes : Act → Option ℕ → Bool
changes Load found = false
changes (Store value) found = true
changes (Exchange wanted new) found = took wanted found
changes (Raise least) found = true

-- none of these steps changed the word at this place
abbrev pub Untouched : At → List TracedStep → Type 0
Untouched place [] = Unit {0}
Untouched place (i ∷ is) = (i.place ≡ place → changes i.act i.found ≡ false) × Untouched place is

-- a step between the two found this number at this place, and no own step between the two had changed it before
pub record FoundAsWas (place : At) (n : ℕ) (v w : CallerState) : Type 0 where
  pub early : List TracedStep
  pub act : Act
  pub late : List TracedStep
  pub step_trace : w.step_trace ≡ late ++ record { place = place; act = act; found = Some n } ∷ (early ++ v.step_trace)
  pub untouched : Untouched place early

-- a load between the two found one number at this place, and a later load, or exchange that wanted the first one,
-- another: no own step in between had changed it
pub record FoundMoved (place : At) (before after : ℕ) (v w : CallerState) : Type 0 where
  pub apart : before ≢ after
  pub early : List TracedStep
  pub middle : List TracedStep
  pub act : Act
  pub late : List TracedStep
  pub step_trace : w.step_trace ≡ late ++ record { place = place; act = act; found = Some after } ∷ (middle ++ record { place = place; act = Load; found = Some before } ∷ (early ++ v.step_trace))
  pub untouched : Untouched place middle
  pub refused : changes act (Some after) ≡ false
