-- What is to be done after an attempt that left nothing.
use Rattle.std.specs.Prelude.{ℕ, ◌≡◌, ◌≤◌, ◌⊎◌, Bool, MatchBool, Option, Some, None}
use Rattle.tx_checked.specs.declared.refusal.Refusal.{Refusal}
use Rattle.tx_checked.specs.declared.refusal.Refusal.TheVariants as refusals
use Rattle.tx_loops.specs.declared.turn.How.{How}
use Rattle.tx_loops.specs.declared.turn.How.TheVariants as hows
use Rattle.tx_loops.specs.declared.turn.Turn.{Turn}
use Rattle.tx_loops.specs.declared.turn.Turn.TheVariants as turns

abbrev pub IsPause : Turn → Type 0
IsPause (turns.Pause times) = Unit {0}
IsPause turn = ⊥

-- after a full log of this length: again, but where it was one of 1,048,576
abbrev pub IsAfterFull : ℕ → Turn → Type 0
IsAfterFull limit (turns.Pause times) = Unit {0}
IsAfterFull limit turns.Full = 1048576 ≤ limit
IsAfterFull limit turn = ⊥

-- after this refusal: again, but where the clock was full, or a log of 1,048,576
abbrev pub IsAfter : Refusal → Turn → Type 0
IsAfter (refusals.ReadsFull limit) turn = IsAfterFull limit turn
IsAfter (refusals.WritesFull limit) turn = IsAfterFull limit turn
IsAfter (refusals.ClockFull clock) turn = turn ≡ turns.ClockFull
IsAfter e turn = IsPause turn

-- after what came in the way last, if anything did
abbrev pub IsAfterRefusal : Option Refusal → Turn → Type 0
IsAfterRefusal None turn = IsPause turn
IsAfterRefusal (Some e) turn = IsAfter e turn

-- after a body that came to this: over where it stopped, or met a word that is out of the transactions while that
-- `stays` out
abbrev pub GoesOnAfter : How → Option Refusal → Bool → Turn → Type 0
GoesOnAfter hows.Done refusal stays turn = IsAfterRefusal refusal turn
GoesOnAfter hows.Full refusal stays turn = IsAfterRefusal refusal turn
GoesOnAfter hows.Refused refusal stays turn = IsPause turn
GoesOnAfter hows.Retry refusal stays turn = IsPause turn ⊎ (turn ≡ turns.Sleep)
GoesOnAfter hows.Fenced refusal stays turn = MatchBool stays (turn ≡ turns.Over) (IsPause turn)
GoesOnAfter hows.Stopped refusal stays turn = turn ≡ turns.Over
