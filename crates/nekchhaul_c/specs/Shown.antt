-- What C is shown of a caller.
use Rattle.std.specs.Prelude.{ℕ, ◌≡◌, ◌+◌, ◌*◌, is_some, Option, Some, None}
use Rattle.core.specs.Int.{from_bool}
use Rattle.nekchhaul_c.specs.declared.asking.State.{State}
use Rattle.nekchhaul_c.specs.declared.asking.Why.{Why}
use Rattle.stm_model.specs.Algorithms.{alg_number}
use Rattle.stm_model.specs.declared.stop.Cause.{Cause}
use Rattle.stm_model.specs.declared.stop.Cause.TheVariants as causes
use Rattle.stm_answers.specs.CallerState.{state_of}
use Rattle.stm_answers.specs.declared.answers.TxState.{TxState}
use Rattle.stm_answers.specs.declared.answers.TxState.TheVariants as states
use Rattle.tx_loops.specs.declared.looping_caller.LoopingCaller.{LoopingCaller}
use Rattle.tx_loops.specs.Accesses.{irrevocable_at, marks_at}
use Rattle.tx_checked.specs.declared.refusal.Refusal.{Refusal}
use Rattle.tx_checked.specs.declared.refusal.Refusal.TheVariants as refusals
use Rattle.tx_checked.specs.CheckedCallers.{is_beside, known_to}

-- a caller is asked, and stays as it is
abbrev pub Shows : ℕ → (LoopingCaller → Type 0) → LoopingCaller → LoopingCaller → Type 0
Shows k Shown m n = (k ≡ 0) × (n ≡ m) × Shown m

-- 0 in no attempt, 1 in one, 2 in the middle of its commit, 3 with the gate closed
abbrev pub stand_number : TxState → ℕ
stand_number states.Idle = 0
stand_number (states.Running alg) = 1
stand_number (states.Committing alg) = 2
stand_number (states.Closing alg) = 3

abbrev pub state_algorithm : TxState → ℕ
state_algorithm states.Idle = 0
state_algorithm (states.Running alg) = alg_number alg
state_algorithm (states.Committing alg) = alg_number alg
state_algorithm (states.Closing alg) = 0

abbrev pub state_shown : LoopingCaller → State
state_shown m = let v = known_to m.caller in record {
  marks = marks_at m.stage m;
  stand = stand_number (state_of v);
  algorithm = state_algorithm (state_of v);
  irrevocable = from_bool (irrevocable_at m.stage m);
  range = from_bool (is_some m.caller.range) + 2 * from_bool (is_beside v);
}

abbrev pub shown : ℕ → ℕ → ℕ → ℕ → ℕ → Why
shown status kind first second third = record { status = status; kind = kind; first = first; second = second; third = third }

abbrev pub cause_shown : Cause → Why
cause_shown (causes.Clock had now) = shown 1 1 had now 0
cause_shown (causes.Record index word start) = shown 1 2 index word start
cause_shown (causes.Moved index before after) = shown 1 3 index before after
cause_shown (causes.Filter time bits) = shown 1 4 time bits 0
cause_shown (causes.Overrun start clock) = shown 1 5 start clock 0

abbrev pub refusal_shown : Refusal → Why
refusal_shown (refusals.Conflict cause) = cause_shown cause
refusal_shown (refusals.GateClosed gate) = shown 2 0 gate 0 0
refusal_shown (refusals.Held word) = shown 3 0 word 0 0
refusal_shown (refusals.Busy caller status) = shown 4 0 caller status 0
refusal_shown (refusals.Again word had now) = shown 5 0 word had now
refusal_shown (refusals.ReadsFull limit) = shown 6 1 limit 0 0
refusal_shown (refusals.WritesFull limit) = shown 6 2 limit 0 0
refusal_shown (refusals.ClockFull clock) = shown 7 0 clock 0 0
refusal_shown refusals.Irrevocable = shown 8 0 0 0 0
refusal_shown (refusals.Deep limit) = shown 9 0 limit 0 0
refusal_shown (refusals.RangeTaken gate) = shown 10 0 gate 0 0

abbrev pub why_of : Option Refusal → Why
why_of None = shown 0 0 0 0 0
why_of (Some e) = refusal_shown e
