-- Where a caller stands, as its user may ask.
use Rattle.std.specs.Prelude.{ℕ, ◌≡◌, ◌≤◌, ◌+◌, true, Option, Some, List}
use Rattle.rule_base.specs.Encodings.{fenced}
use Rattle.stm_answers.specs.Answers.{HoldsClosed}
use Rattle.stm_answers.specs.Fences.{is_within}
use Rattle.stm_answers.specs.CallerState.{CallerState, Fenced, IsIdle, IsRunning}
use Rattle.tx_checked.specs.declared.checked_caller.Range.{Range}
use Rattle.tx_checked.specs.declared.phase.CallerPhase.{CallerPhase}
use Rattle.tx_checked.specs.declared.phase.CallerPhase.TheVariants.{Idle, Running, Beside, Committing, Closing}
use Rattle.tx_checked.specs.declared.refusal.Refusal.{Refusal}
use Rattle.tx_checked.specs.declared.refusal.Refusal.TheVariants as refusals

-- every memory is good
abbrev pub Any : List ℕ → Type 0
Any memory = Unit {0}

-- only an attempt that is `Beside` a range may have to leave words alone
abbrev pub IsInPhase : CallerPhase → CallerState → Type 0
IsInPhase s v = (s ≡ Idle → IsIdle v) × (s ≡ Running → IsRunning v × (v.fence ≡ 0)) × (s ≡ Beside → IsRunning v) × (s ≡ Committing → (v.running ≡ true) × (v.committing ≡ true)) × (s ≡ Closing → HoldsClosed v)

-- of so many words how many can be read and written without another look
abbrev pub reach_at : CallerPhase → ℕ → ℕ
reach_at Idle words = 0
reach_at Running words = words
reach_at Beside words = 0
reach_at Committing words = 0
reach_at Closing words = 0

-- where a caller stands whose errand was refused so: only at Busy it keeps the gate closed
abbrev pub phase_after : Refusal → CallerPhase
phase_after (refusals.Busy caller status) = Closing
phase_after refusal = Idle

-- what is written down of a caller's range is true
abbrev pub IsRangeOf : Range → ℕ → Fenced → Type 0
IsRangeOf r words f = (f.held ≡ true) × (r.from + r.count ≤ words) × ((a : ℕ) → fenced f.number a ≡ is_within r.from r.count a)

abbrev pub HasRange : Option Range → ℕ → Fenced → Type 0
HasRange range words f = (r : Range) → range ≡ Some r → IsRangeOf r words f
