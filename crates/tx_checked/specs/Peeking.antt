-- One word outside attempts: what an attempt of this one read does.
use Rattle.std.specs.Prelude.{ℕ, ◌≡◌, ◌<◌, ◌^◌, [], ◌∷◌, Some}
use Rattle.stm_model.specs.declared.alg.Alg.{Alg}
use Rattle.stm_model.specs.declared.stop.Cause.{Cause}
use Rattle.stm_model.specs.Logs.{Log}
use Rattle.stm_answers.specs.CallerState.{IsIdle}
use Rattle.stm_answers.specs.declared.answers.Begin.TheVariants as begins
use Rattle.stm_answers.specs.declared.answers.Commit.TheVariants as commits
use Rattle.stm_answers.specs.declared.answers.Read.TheVariants as reads
use Rattle.tx_atomic.specs.Attempts.{TookEffect}
use Rattle.tx_checked.specs.declared.checked_caller.CheckedCaller.{CheckedCaller}
use Rattle.tx_checked.specs.declared.misuse.Misuse.TheVariants as wrong
use Rattle.tx_checked.specs.declared.peeking.Peek.{Peek}
use Rattle.tx_checked.specs.declared.peeking.Peek.TheVariants as peeks
use Rattle.tx_checked.specs.CheckedCallers.{IsSameCheckedCaller, config_of, known_to, number_of}
use Rattle.tx_checked.specs.Misuses.{access}
use Rattle.tx_checked.specs.Phases.{Any}
use Rattle.tx_checked.specs.Tells.{HasBegun, HasCommitted, HasReadWord}

abbrev pub one_read : ℕ → ℕ → Log
one_read a x = record { reads = (a, x) ∷ []; writes = [] }

-- from k, which is in an attempt, to n: what came of the read of a, and of the attempt's end
abbrev pub HasEndedUnread : CheckedCaller → CheckedCaller → Type 0
HasEndedUnread k n = (time : ℕ) × HasCommitted k n (commits.ReadOnly time)

abbrev pub HasReadOnce : ℕ → CheckedCaller → CheckedCaller → Peek → Type 0
HasReadOnce a k n (peeks.Value x) = (l : CheckedCaller) × IsSameCheckedCaller k l × HasReadWord a k l (reads.Value x) × HasEndedUnread l n
HasReadOnce a k n peeks.Fenced = (access a k ≡ Some wrong.Fenced) × HasEndedUnread k n
HasReadOnce a k n peeks.Conflict = (cause : Cause) × HasReadWord a k n (reads.Conflict cause)
HasReadOnce a k n peeks.Full = (limit : ℕ) × HasReadWord a k n (reads.Full limit)
HasReadOnce a k n peeks.Closed = ⊥
HasReadOnce a k n peeks.Held = ⊥
HasReadOnce a k n peeks.ClockFull = ⊥

-- an attempt of this caller began, and that came of it
abbrev pub HasLookedOnce : ℕ → CheckedCaller → CheckedCaller → Peek → Type 0
HasLookedOnce a m n r = (k : CheckedCaller) × (alg : Alg) × IsSameCheckedCaller m k × HasBegun m k (begins.Begun alg) × HasReadOnce a k n r

-- A WORD AT ONE MOMENT: an attempt took effect which read that and wrote nothing,
-- at a moment not before anything that the caller had seen
abbrev pub TookALook : ℕ → ℕ → CheckedCaller → CheckedCaller → Type 0
TookALook a x m n = TookEffect Any (config_of m) (number_of m) (λ l. l ≡ one_read a x) (known_to m).front (known_to m) (known_to n)

-- WHAT A LOOK AT A WORD TELLS
abbrev pub HasPeeked : ℕ → CheckedCaller → CheckedCaller → Peek → Type 0
HasPeeked a m n (peeks.Value x) = TookALook a x m n × IsIdle (known_to n) × (x < 2 ^ 64) × HasLookedOnce a m n (peeks.Value x)
HasPeeked a m n peeks.Closed = (gate : ℕ) × HasBegun m n (begins.Closed gate)
HasPeeked a m n peeks.Held = (word : ℕ) × HasBegun m n (begins.Held word)
HasPeeked a m n peeks.ClockFull = (clock : ℕ) × HasBegun m n (begins.ClockFull clock)
HasPeeked a m n r = HasLookedOnce a m n r
