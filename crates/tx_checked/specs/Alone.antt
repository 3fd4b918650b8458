-- How a caller comes to be alone with its memory, and what it is refused by on the way: the answers of stm_tx's calls.
use Rattle.std.specs.Prelude.{ℕ, ◌≡◌, ◌≢◌, ◌⊎◌, ◌++◌, Bool, true, false, List, Contains, Some}
use Rattle.rule_base.specs.declared.layout.At.TheVariants.{Gate}
use Rattle.rule_base.specs.declared.views.Act.TheVariants.{Load}
use Rattle.rule_base.specs.declared.views.TracedStep.{TracedStep}
use Rattle.rule_base.specs.Encodings.{fence_of, gate_word, holder_of}
use Rattle.stm_model.specs.declared.config.Config.{Config}
use Rattle.stm_answers.specs.declared.answers.CloseGate.TheVariants as gates
use Rattle.stm_answers.specs.declared.answers.Give.{Give}
use Rattle.stm_answers.specs.declared.answers.Give.TheVariants as gives
use Rattle.stm_answers.specs.declared.answers.Look.TheVariants as looks
use Rattle.stm_answers.specs.Answers.{Closes, HasOthers, Looks, Reopens, Stays}
use Rattle.stm_answers.specs.Causes.{NamesOther}
use Rattle.stm_answers.specs.Counting.{AddsAtMost}
use Rattle.stm_answers.specs.Evidence.{Untouched}
use Rattle.stm_answers.specs.Fences.{Gives}
use Rattle.stm_answers.specs.CallerState.{CallerState}
use Rattle.tx_checked.specs.declared.refusal.Refusal.{Refusal}
use Rattle.tx_checked.specs.declared.refusal.Refusal.TheVariants as refusals
use Rattle.tx_checked.specs.Phases.{Any}

-- c is the memory's configuration, and n the caller
module _ (c : Config) (n : ℕ) where
  -- the gate was looked at, and not closed: no step of the call changed its word,
  -- which names another caller where it isn't open
  pub record LooksAtGate (gate : ℕ) (v w : CallerState) : Type 0 where
    pub stays : Stays c v w
    pub steps : List TracedStep
    pub step_trace : w.step_trace ≡ steps ++ v.step_trace
    pub found : Contains steps (record { place = Gate; act = Load; found = Some gate })
    pub untouched : Untouched Gate steps
    pub closer : holder_of gate ≢ 0 → NamesOther c n (holder_of gate) × HasOthers Any c n

  -- the gate showed no range before it was closed: it was looked at, unless it was closed before
  abbrev pub HasLookedBy : Bool → CallerState → CallerState → Type 0
  HasLookedBy true v looked = looked ≡ v
  HasLookedBy false v looked = (gate : ℕ) × LooksAtGate gate v looked × (fence_of gate ≡ 0)

  -- the gate is closed: it was closed before, or is so now
  abbrev pub HasClosedBy : Bool → CallerState → CallerState → Type 0
  HasClosedBy true v closed = closed ≡ v
  HasClosedBy false v closed = Closes Any c n gates.Closed v closed

-- and whether it had closed the gate before
module _ (c : Config) (n : ℕ) (closing : Bool) where
  -- the gate is closed, and a look since then has seen the last of the others idle
  abbrev pub IsAlone : CallerState → CallerState → Type 0
  IsAlone v w = (closed : CallerState) × HasClosedBy c n closing v closed × Looks Any c n looks.Quiet closed w

  -- another caller had the gate; or it was closed, and a look, which went on where the last one stopped,
  -- found another caller in an attempt
  abbrev pub IsHeldUp : Refusal → CallerState → CallerState → Type 0
  IsHeldUp (refusals.GateClosed gate) v w = (closing ≡ false) × Closes Any c n (gates.Taken gate) v w
  IsHeldUp (refusals.Busy caller status) v w = (closed : CallerState) × HasClosedBy c n closing v closed × Looks Any c n (looks.Busy caller status) closed w
  IsHeldUp refusal v w = ⊥

  -- a range was out already, as the open gate showed, which stayed open
  pub record SeesRange (gate : ℕ) (v w : CallerState) : Type 0 where
    pub looks : LooksAtGate c n gate v w
    pub open_gate : holder_of gate ≡ 0
    pub out : fence_of gate ≢ 0

  -- or one came out after such a look had shown none: the gate was closed, showed it, and was reopened by the next step
  pub record MeetsRange (gate : ℕ) (v w : CallerState) : Type 0 where
    pub looked : CallerState
    pub before : HasLookedBy c n closing v looked
    pub closed : CallerState
    pub by : HasClosedBy c n closing looked closed
    pub out : closed.fence ≢ 0
    pub named : gate ≡ gate_word closed.fence 0 closed.alg
    pub reopens : Reopens Any c n closed w
    pub next : AddsAtMost 1 closed w

  -- nobody was waited for
  abbrev pub FindsTaken : ℕ → CallerState → CallerState → Type 0
  FindsTaken gate v w = ((closing ≡ false) × SeesRange gate v w) ⊎ MeetsRange gate v w

  -- the same of the call that takes words
  abbrev pub IsTakeRefused : Refusal → CallerState → CallerState → Type 0
  IsTakeRefused (refusals.GateClosed gate) v w = IsHeldUp (refusals.GateClosed gate) v w
  IsTakeRefused (refusals.Busy caller status) v w = IsHeldUp (refusals.Busy caller status) v w
  IsTakeRefused (refusals.RangeTaken gate) v w = FindsTaken gate v w
  IsTakeRefused refusal v w = ⊥

  -- it was alone, the clock was found at its limit, and the gate was reopened
  abbrev pub FindsClockFull : ℕ → CallerState → CallerState → Type 0
  FindsClockFull clock v w = (alone : CallerState) × IsAlone v alone × (there : CallerState) × Gives Any c n (gives.ClockFull clock) alone there × Reopens Any c n there w

  -- where a range isn't given back, that is why
  abbrev pub FindsFullAt : Give → CallerState → CallerState → Type 0
  FindsFullAt (gives.Committed time) v w = Unit {0}
  FindsFullAt gives.Unchanged v w = Unit {0}
  FindsFullAt (gives.ClockFull clock) v w = FindsClockFull clock v w
