-- What the calls of a loop tell.
use Rattle.std.specs.Prelude.{ℕ, ◌≡◌, ◌≢◌, ◌≤◌, ◌⊎◌, ◌==◌, ◌||◌, max, [], Bool, true, false, is_some, MatchBool, List, Option, Some, None, Result, Ok, Err}
use Rattle.stm_model.specs.Logs.{Log}
use Rattle.stm_model.specs.Memories.{item_at}
use Rattle.stm_answers.specs.CallerState.{Grows, IsIdle, IsRunning, is_irrevocable, no_log}
use Rattle.tx_atomic.specs.Attempts.{TookEffect}
use Rattle.tx_checked.specs.CheckedCallers.{IsSameCheckedCaller, config_of, known_to, number_of}
use Rattle.tx_checked.specs.declared.checked_caller.CheckedCaller.{CheckedCaller}
use Rattle.tx_checked.specs.declared.misuse.Misuse.{Misuse}
use Rattle.tx_checked.specs.declared.misuse.Misuse.TheVariants as wrong
use Rattle.tx_checked.specs.declared.refusal.Refusal.{Refusal}
use Rattle.tx_checked.specs.declared.refusal.Refusal.TheVariants as refusals
use Rattle.tx_checked.specs.Misuses.{outside}
use Rattle.tx_checked.specs.Phases.{Any}
use Rattle.tx_checked.specs.Tells.{HasReserved}
use Rattle.tx_loops.specs.declared.plan.LogKind.{LogKind}
use Rattle.tx_loops.specs.declared.plan.LogKind.TheVariants.{Reads, Writes}
use Rattle.tx_loops.specs.Hindrances.{HindersAsking, HindersCommit, HindersOpening, HindersWrite, IsHindered, stage_after}
use Rattle.tx_loops.specs.declared.looping_caller.LoopingCaller.{LoopingCaller}
use Rattle.tx_loops.specs.declared.stage.Stage.{Stage}
use Rattle.tx_loops.specs.declared.stage.Stage.TheVariants.{Free, Direct, Bound, Lapsed, Buffered, Asking, Committing}
use Rattle.tx_loops.specs.declared.turn.How.{How}
use Rattle.tx_loops.specs.declared.turn.How.TheVariants as hows
use Rattle.tx_loops.specs.declared.turn.Turn.{Turn}
use Rattle.tx_loops.specs.declared.turn.Turn.TheVariants as turns
use Rattle.tx_loops.specs.Stages.{is_all_out, log_at}
use Rattle.stm_tx.specs.Fencing.{fence_seen}
use Rattle.tx_parts.specs.Laying.{SameLog}
use Rattle.tx_loops.specs.Turns.{GoesOnAfter, IsAfterRefusal}

-- its range and what it has installed are as they were
abbrev pub KeepsHold : CheckedCaller → CheckedCaller → Type 0
KeepsHold m n = (n.range ≡ m.range) × ((known_to n).installs ≡ (known_to m).installs)

-- the same caller, which has made no entry, has seen at least as much, and has what it had
pub record MadeNothing (m n : CheckedCaller) : Type 0 where
  pub same : IsSameCheckedCaller m n
  pub made : (known_to n).made ≡ (known_to m).made
  pub grows : Grows (known_to m) (known_to n)
  pub holds : KeepsHold m n

-- its commit is to be asked again, of the same log: another was faster
pub record AsksAgain (m n : CheckedCaller) : Type 0 where
  pub nothing : MadeNothing m n
  pub running : (known_to n).running ≡ true
  pub log : (known_to n).log ≡ (known_to m).log
  pub was : is_irrevocable (known_to m) ≡ false
  pub revocable : is_irrevocable (known_to n) ≡ false
  pub word : ℕ
  pub had : ℕ
  pub now : ℕ
  pub hinders : HindersCommit m n (refusals.Again word had now)
  pub refusal : n.refusal ≡ Some (refusals.Again word had now)

-- what the body of a caller has read and written
abbrev pub log_of : LoopingCaller → Log
log_of m = log_at m.stage (known_to m.caller).log m.buffer.items

-- from the one to the other an attempt with such a log took effect once, as the last thing that the caller did
abbrev pub TookEffectWith : (Log → Type 0) → CheckedCaller → CheckedCaller → Type 0
TookEffectWith tells m n = TookEffect Any (config_of m) (number_of m) tells (known_to m).start (known_to m) (known_to n)

-- what it read and wrote took effect, and no attempt is open
abbrev pub IsThrough : CheckedCaller → CheckedCaller → Type 0
IsThrough m n = IsIdle (known_to n) × TookEffectWith (λ l. l ≡ (known_to m).log) m n × KeepsHold m n

-- it was refused, which an irrevocable attempt never is, and has ended
abbrev pub IsRefused : CheckedCaller → CheckedCaller → Type 0
IsRefused m n = IsIdle (known_to n) × MadeNothing m n × (is_irrevocable (known_to m) ≡ false)

-- its refusal ended the attempt, and is written down
abbrev pub EndsBy : (Refusal → Type 0) → CheckedCaller → Type 0
EndsBy Hinders n = (e : Refusal) × Hinders e × (stage_after e ≡ Free) × (n.refusal ≡ Some e)

-- an attempt is open, in which nothing was done, and a body may run there
pub record MayRun (n : LoopingCaller) : Type 0 where
  pub running : IsRunning (known_to n.caller)
  pub empty : log_of n ≡ no_log
  pub stage : (n.stage ≡ Direct) ⊎ (n.stage ≡ Buffered)

-- no attempt of a body is open any more
pub record IsOut (m n : LoopingCaller) : Type 0 where
  pub nothing : MadeNothing m.caller n.caller
  pub stage : n.stage ≡ Free
  pub idle : m.stage ≢ Lapsed → IsIdle (known_to n.caller)

-- its commit was put off, of the same log
pub record IsPutOff (m n : LoopingCaller) : Type 0 where
  pub nothing : MadeNothing m.caller n.caller
  pub stage : n.stage ≡ Committing
  pub log : SameLog (log_of m) (log_of n)

-- the logs are as long as is wanted, or longer: that of what was read, or those of what is written
abbrev pub Lengthens : LogKind → ℕ → LoopingCaller → LoopingCaller → Type 0
Lengthens Reads wanted m n = HasReserved wanted 1 m.caller n.caller (Ok tt) × (n.buffer ≡ m.buffer)
Lengthens Writes wanted m n = HasReserved 1 wanted m.caller n.caller (Ok tt) × (n.buffer ≡ record m.buffer { len = max m.buffer.len wanted; marks = [] })

-- where memory is refused for them, it may be for the buffer alone
abbrev pub LengthensInVain : ℕ → CheckedCaller → CheckedCaller → Type 0
LengthensInVain wanted m n = (n ≡ m) ⊎ HasReserved 1 wanted m n (Ok tt)

abbrev pub LengthenSays : LoopingCaller → LoopingCaller → Result Turn Misuse → Type 0
LengthenSays m n (Ok (turns.Pause times)) = (n.stage ≡ Free) × (n.plan.wanted ≡ 0) × IsSameCheckedCaller m.caller n.caller × Lengthens m.plan.kind m.plan.wanted m n
LengthenSays m n (Ok turns.Memory) = (n.stage ≡ Free) × IsSameCheckedCaller m.caller n.caller × LengthensInVain m.plan.wanted m.caller n.caller
LengthenSays m n (Ok turn) = ⊥
LengthenSays m n (Err e) = (outside m.caller ≡ Some e) × (n ≡ m)

-- nothing was made: an attempt that has done nothing asks to be irrevocable, or none is open
abbrev pub IsPending : CheckedCaller → LoopingCaller → Type 0
IsPending m n = MadeNothing m n.caller × ((n.stage ≡ Asking) ⊎ ((n.stage ≡ Free) × IsIdle (known_to n.caller)))

-- what a caller that asks to be irrevocable comes to: its body may run, and its commit can't be refused; or it was
-- hindered
abbrev pub AskSays : CheckedCaller → LoopingCaller → Turn → Type 0
AskSays m n turn =
    ((turn ≡ turns.Run) × MadeNothing m n.caller × MayRun n × ((known_to m).start ≤ (known_to n.caller).start) × (is_irrevocable (known_to n.caller) ≡ true))
    ⊎ (IsPending m n × IsHindered (HindersAsking m n.caller) n turn)

-- and one that begins
abbrev pub Opens : CheckedCaller → LoopingCaller → Turn → Type 0
Opens m n turn =
    ((turn ≡ turns.Run) × MadeNothing m n.caller × MayRun n × ((known_to m).front ≤ (known_to n.caller).start))
    ⊎ (IsPending m n × IsHindered (HindersOpening m n.caller) n turn)

abbrev pub OpenSays : LoopingCaller → LoopingCaller → Result Turn Misuse → Type 0
OpenSays m n (Ok turn) = Opens m.caller n turn
OpenSays m n (Err e) = (outside m.caller ≡ Some e) × (n ≡ m)

-- nothing was made: the commit is to be asked again, of the same log, or no attempt is open
abbrev pub Lasts : CheckedCaller → LoopingCaller → Type 0
Lasts m n = MadeNothing m n.caller × (((n.stage ≡ Committing) × ((known_to n.caller).log ≡ (known_to m).log)) ⊎ ((n.stage ≡ Free) × IsIdle (known_to n.caller)))

-- what the commit of a body comes to
abbrev pub FinishSays : CheckedCaller → LoopingCaller → Turn → Type 0
FinishSays m n turn =
    ((turn ≡ turns.Done) × (n.stage ≡ Free) × IsThrough m n.caller)
    ⊎ (Lasts m n × IsHindered (HindersCommit m n.caller) n turn)

-- WHAT `enter` TELLS
abbrev pub EnterAt : Stage → LoopingCaller → LoopingCaller → Result Turn Misuse → Type 0
EnterAt Free m n r = MatchBool (m.plan.wanted == 0) (OpenSays m n r) (LengthenSays m n r)
EnterAt Asking m n (Ok turn) = AskSays m.caller n turn
EnterAt Asking m n (Err e) = ⊥
EnterAt Committing m n (Ok turn) = FinishSays m.caller n turn
EnterAt Committing m n (Err e) = ⊥
EnterAt stage m n r = (r ≡ Err wrong.InAttempt) × (n ≡ m)

abbrev pub EnterSays : LoopingCaller → LoopingCaller → Result Turn Misuse → Type 0
EnterSays m n r = EnterAt m.stage m n r

-- what a body did that can't stop stands
pub record HasStood (m n : LoopingCaller) : Type 0 where
  pub bound : m.stage ≡ Bound
  pub took : TookEffectWith (λ l. l ≡ (known_to m.caller).log) m.caller n.caller
  pub stage : n.stage ≡ Free
  pub idle : IsIdle (known_to n.caller)
  pub holds : KeepsHold m.caller n.caller

-- what is out of the transactions doesn't come back while this body waits for it: the caller has a range itself, or all
-- words are out
abbrev pub stays_out : CheckedCaller → Bool
stays_out m = is_some m.range || is_all_out (config_of m).words (fence_seen (known_to m))

abbrev pub GivesUp : How → LoopingCaller → LoopingCaller → Turn → Type 0
GivesUp how m n turn = IsOut m n × (n.caller.refusal ≡ m.caller.refusal) × GoesOnAfter how m.caller.refusal (stays_out m.caller) turn

-- no body runs that could be done, or come to something else
abbrev pub leave_misuse : Bool → Stage → Option Misuse
leave_misuse done Free = Some wrong.NoAttempt
leave_misuse true Asking = Some wrong.NoAttempt
leave_misuse true Committing = Some wrong.NoAttempt
leave_misuse done stage = None

-- a write of what lay in the buffer was refused so
abbrev pub HindersStoring : List (ℕ × ℕ) → CheckedCaller → CheckedCaller → Refusal → Type 0
HindersStoring ws m n e = (k : CheckedCaller) × MadeNothing m k × (a x : ℕ) × (item_at a ws ≡ Some x) × HindersWrite a x k n e

-- what the body did lies in the attempt
abbrev pub HasStored : LoopingCaller → CheckedCaller → Type 0
HasStored m k = MadeNothing m.caller k × SameLog (log_of m) (known_to k).log

-- it didn't come to lie there, or the commit of it was refused so
abbrev pub HindersEnd : LoopingCaller → CheckedCaller → Refusal → Type 0
HindersEnd m n e = HindersStoring m.buffer.items m.caller n e ⊎ ((k : CheckedCaller) × HasStored m k × HindersCommit k n e)

-- its attempt had ended while the body ran, which it was told, and that was the last that came in the way
pub record HadLapsed (m n : LoopingCaller) (turn : Turn) : Type 0 where
  pub stage : m.stage ≡ Lapsed
  pub now : n.stage ≡ Free
  pub caller : n.caller ≡ m.caller
  pub after : IsAfterRefusal m.caller.refusal turn

-- WHAT `leave` TELLS of a body that was done: it took effect with what it read and wrote; or its commit was put off, or
-- nothing of it stands, for what hindered it
abbrev pub DoneSays : LoopingCaller → LoopingCaller → Result Turn Misuse → Type 0
DoneSays m n (Ok turn) =
    ((turn ≡ turns.Done) × (n.stage ≡ Free) × IsIdle (known_to n.caller) × TookEffectWith (SameLog (log_of m)) m.caller n.caller × KeepsHold m.caller n.caller)
    ⊎ ((IsPutOff m n ⊎ IsOut m n) × (HadLapsed m n turn ⊎ IsHindered (HindersEnd m n.caller) n turn))
DoneSays m n (Err e) = (leave_misuse true m.stage ≡ Some e) × (n ≡ m)

-- and of any other: nothing of it stands, or it had said that it can't stop, and all of it does
abbrev pub UndoneSays : How → LoopingCaller → LoopingCaller → Result Turn Misuse → Type 0
UndoneSays how m n (Ok turns.Irrevocable) = HasStood m n
UndoneSays how m n (Ok turn) = (m.stage ≢ Bound) × GivesUp how m n turn
UndoneSays how m n (Err e) = (leave_misuse false m.stage ≡ Some e) × (n ≡ m)

abbrev pub LeaveSays : How → LoopingCaller → LoopingCaller → Result Turn Misuse → Type 0
LeaveSays hows.Done m n r = DoneSays m n r
LeaveSays how m n r = UndoneSays how m n r
