-- What the reads, the writes and the marks of a caller tell that may be in a loop,
-- and the calls that a loop's attempts don't take.
use Rattle.std.specs.Prelude.{ℕ, ◌≡◌, ◌≤◌, ◌+◌, ◌-◌, ◌++◌, ◌∷◌, [], take, length, if◌then◌else◌, nat_le, MatchOption, Bool, false, ◌&&◌, Option, Some, None, Result, Ok, Err}
use Rattle.stm_model.specs.Memories.{item_at, put}
use Rattle.stm_tx.specs.Nesting.{live_marks}
use Rattle.stm_answers.specs.CallerState.{IsIdle, is_irrevocable}
use Rattle.stm_answers.specs.declared.answers.Check.{Check}
use Rattle.stm_answers.specs.declared.answers.Check.TheVariants as checks
use Rattle.stm_answers.specs.declared.answers.Irrev.{Irrev}
use Rattle.stm_answers.specs.declared.answers.Irrev.TheVariants as grants
use Rattle.stm_answers.specs.declared.answers.Read.{Read}
use Rattle.stm_answers.specs.declared.answers.Read.TheVariants as reads
use Rattle.stm_answers.specs.declared.answers.Roll.{Roll}
use Rattle.stm_answers.specs.declared.answers.Roll.TheVariants as rolls
use Rattle.stm_answers.specs.declared.answers.Write.{Write}
use Rattle.stm_answers.specs.declared.answers.Write.TheVariants as writes
use Rattle.tx_checked.specs.CheckedCallers.{known_to}
use Rattle.tx_checked.specs.declared.checked_caller.CheckedCaller.{CheckedCaller}
use Rattle.tx_checked.specs.declared.misuse.Misuse.{Misuse}
use Rattle.tx_checked.specs.declared.misuse.Misuse.TheVariants as wrong
use Rattle.tx_checked.specs.declared.refusal.Refusal.TheVariants as refusals
use Rattle.tx_checked.specs.Misuses.{access, at_mark, holds_at, or_else, outside, running}
use Rattle.tx_checked.specs.Tells.{Tells, IsIrrevocable, HasDropped, HasMarked, HasReadWord, HasRolled, HasWrittenWord}
use Rattle.tx_loops.specs.declared.looping_caller.LoopingCaller.{LoopingCaller}
use Rattle.tx_loops.specs.declared.stage.Stage.{Stage}
use Rattle.tx_loops.specs.declared.stage.Stage.TheVariants.{Free, Direct, Bound, Lapsed, Buffered, Asking, Committing}
use Rattle.stm_logs.specs.LogStates.{rolled}
use Rattle.tx_loops.specs.Loops.{MadeNothing, log_of}
use Rattle.tx_parts.specs.Laying.{SameLog}
use Rattle.tx_loops.specs.Stages.{lapsed}

-- all of the loop is as it was
pub record SameLoop (m n : LoopingCaller) : Type 0 where
  pub buffer : n.buffer ≡ m.buffer
  pub stage : n.stage ≡ m.stage
  pub plan : n.plan ≡ m.plan

-- of a call that a loop has no part in: what the caller's own call tells
abbrev pub Passes : {A : Type 0} → (CheckedCaller → Option Misuse) → (CheckedCaller → CheckedCaller → A → Type 0) → LoopingCaller → LoopingCaller → Result A Misuse → Type 0
Passes fits Told m n r = Tells (fits m.caller) (Told m.caller n.caller) m.caller n.caller r × SameLoop m n

-- and of one that only the caller in no loop makes: a body answers in its place, and `leave` ends its attempt
abbrev pub free_misuse : Stage → Option Misuse
free_misuse Free = None
free_misuse stage = Some wrong.InAttempt

abbrev pub PassesAt : {A : Type 0} → Option Misuse → (CheckedCaller → Option Misuse) → (CheckedCaller → CheckedCaller → A → Type 0) → LoopingCaller → LoopingCaller → Result A Misuse → Type 0
PassesAt None fits Told m n r = Passes fits Told m n r
PassesAt (Some e) fits Told m n r = (r ≡ Err e) × (n ≡ m)

abbrev pub PassesFree : {A : Type 0} → (CheckedCaller → Option Misuse) → (CheckedCaller → CheckedCaller → A → Type 0) → LoopingCaller → LoopingCaller → Result A Misuse → Type 0
PassesFree fits Told m n r = PassesAt (free_misuse m.stage) fits Told m n r

-- of a caller that is to be let go
abbrev pub leaving : CheckedCaller → Option Misuse
leaving m = or_else (outside m) (holds_at m.range)

-- READS. The stage after one
abbrev pub read_stage : Result Read Misuse → Stage → Stage
read_stage (Ok (reads.Value x)) s = s
read_stage (Ok (reads.Conflict cause)) s = lapsed s
read_stage (Ok (reads.Full limit)) s = lapsed s
read_stage (Err e) s = s

abbrev pub ReadsBelow : ℕ → LoopingCaller → LoopingCaller → Result Read Misuse → Type 0
ReadsBelow a m n r = Tells (access a m.caller) (HasReadWord a m.caller n.caller) m.caller n.caller r × (n.buffer ≡ m.buffer) × (n.plan ≡ m.plan) × (n.stage ≡ read_stage r m.stage)

-- no body runs yet or any more
abbrev pub IsAway : {A : Type 0} → LoopingCaller → LoopingCaller → Result A Misuse → Type 0
IsAway m n r = (r ≡ Err wrong.Committing) × (n ≡ m)

abbrev pub ReadsAt : Stage → ℕ → LoopingCaller → LoopingCaller → Result Read Misuse → Type 0
ReadsAt Buffered a m n r = MatchOption (item_at a m.buffer.items) (ReadsBelow a m n r) (λ x. (r ≡ Ok (reads.Value x)) × (n ≡ m))
ReadsAt Asking a m n r = IsAway m n r
ReadsAt Committing a m n r = IsAway m n r
ReadsAt stage a m n r = ReadsBelow a m n r

-- what a read comes to that doesn't go to the attempt; and that one does
abbrev pub ReadsHere : ℕ → Stage → LoopingCaller → Result Read Misuse → Type 0
ReadsHere a Buffered m r = MatchOption (item_at a m.buffer.items) ⊥ (λ x. r ≡ Ok (reads.Value x))
ReadsHere a Asking m r = r ≡ Err wrong.Committing
ReadsHere a Committing m r = r ≡ Err wrong.Committing
ReadsHere a stage m r = ⊥

abbrev pub ReadsOn : ℕ → Stage → LoopingCaller → Type 0
ReadsOn a Buffered m = item_at a m.buffer.items ≡ None
ReadsOn a Asking m = ⊥
ReadsOn a Committing m = ⊥
ReadsOn a stage m = Unit {0}

-- WHAT A READ TELLS: the buffer's write of the word, else what the caller reads
abbrev pub ReadSays : ℕ → LoopingCaller → LoopingCaller → Result Read Misuse → Type 0
ReadSays a m n r = ReadsAt m.stage a m n r

-- WRITES
abbrev pub write_stage : Result Write Misuse → Stage → Stage
write_stage (Ok writes.Done) s = s
write_stage (Ok (writes.Conflict cause)) s = lapsed s
write_stage (Ok (writes.Full limit)) s = lapsed s
write_stage (Ok (writes.ClockFull clock)) s = lapsed s
write_stage (Err e) s = s

abbrev pub WritesBelow : ℕ → ℕ → LoopingCaller → LoopingCaller → Result Write Misuse → Type 0
WritesBelow a x m n r = Tells (access a m.caller) (HasWrittenWord a x m.caller n.caller) m.caller n.caller r × (n.buffer ≡ m.buffer) × (n.plan ≡ m.plan) × (n.stage ≡ write_stage r m.stage)

-- a write into the buffer; where that has no room the attempt has ended, and left nothing
abbrev pub WritesInto : ℕ → ℕ → LoopingCaller → LoopingCaller → Result Write Misuse → Type 0
WritesInto a x m n (Ok writes.Done) = (access a m.caller ≡ None) × (n.caller ≡ m.caller) × (n.buffer ≡ record m.buffer { items = put a x m.buffer.items }) × (n.plan ≡ m.plan) × (n.stage ≡ Buffered)
WritesInto a x m n (Ok (writes.Full limit)) = (access a m.caller ≡ None) × MadeNothing m.caller n.caller × IsIdle (known_to n.caller) × (n.stage ≡ Lapsed) × (item_at a m.buffer.items ≡ None) × (length m.buffer.items ≡ m.buffer.len) × (limit ≡ m.buffer.len) × (n.caller.refusal ≡ Some (refusals.WritesFull limit))
WritesInto a x m n (Ok (writes.Conflict cause)) = ⊥
WritesInto a x m n (Ok (writes.ClockFull clock)) = ⊥
WritesInto a x m n (Err e) = (access a m.caller ≡ Some e) × (n ≡ m)

abbrev pub WritesAt : Stage → ℕ → ℕ → LoopingCaller → LoopingCaller → Result Write Misuse → Type 0
WritesAt Buffered a x m n r = WritesInto a x m n r
WritesAt Asking a x m n r = IsAway m n r
WritesAt Committing a x m n r = IsAway m n r
WritesAt stage a x m n r = WritesBelow a x m n r

-- WHAT A WRITE TELLS
abbrev pub WriteSays : ℕ → ℕ → LoopingCaller → LoopingCaller → Result Write Misuse → Type 0
WriteSays a x m n r = WritesAt m.stage a x m n r

-- MARKS, of the buffer where a body has one
abbrev pub MarksInto : LoopingCaller → LoopingCaller → Result Check Misuse → Type 0
MarksInto m n (Ok (checks.Marked depth)) = (n.caller ≡ m.caller) × (n.buffer ≡ record m.buffer { marks = m.buffer.marks ++ m.buffer.items ∷ [] }) × (depth ≡ length m.buffer.marks + 1) × (n.plan ≡ m.plan) × (n.stage ≡ Buffered)
MarksInto m n (Ok (checks.Deep limit)) = (m.buffer.marks_limit ≤ length m.buffer.marks) × (limit ≡ m.buffer.marks_limit) × (n.caller.desc ≡ m.caller.desc) × (n.caller.refusal ≡ Some (refusals.Deep limit)) × (n.buffer ≡ m.buffer) × (n.stage ≡ Buffered)
MarksInto m n (Err e) = ⊥

abbrev pub MarksAt : Stage → LoopingCaller → LoopingCaller → Result Check Misuse → Type 0
MarksAt Buffered m n r = MarksInto m n r
MarksAt Asking m n r = IsAway m n r
MarksAt Committing m n r = IsAway m n r
MarksAt stage m n r = Passes running HasMarked m n r

abbrev pub MarkSays : LoopingCaller → LoopingCaller → Result Check Misuse → Type 0
MarkSays m n r = MarksAt m.stage m n r

-- mark d stands in the buffer
abbrev pub buffer_mark : ℕ → LoopingCaller → Option Misuse
buffer_mark d m = if nat_le 1 d then (if nat_le d (length m.buffer.marks) then None else Some wrong.Depth) else Some wrong.Depth

abbrev pub RollsInto : ℕ → LoopingCaller → LoopingCaller → Result Roll Misuse → Type 0
RollsInto d m n (Ok rolls.Rolled) = (buffer_mark d m ≡ None) × (n.caller ≡ m.caller) × (n.buffer ≡ rolled d m.buffer) × (n.plan ≡ m.plan) × (n.stage ≡ Buffered)
RollsInto d m n (Ok rolls.Irrevocable) = ⊥
RollsInto d m n (Err e) = (buffer_mark d m ≡ Some e) × (n ≡ m)

abbrev pub RollsAt : Stage → ℕ → LoopingCaller → LoopingCaller → Result Roll Misuse → Type 0
RollsAt Buffered d m n r = RollsInto d m n r
RollsAt Asking d m n r = IsAway m n r
RollsAt Committing d m n r = IsAway m n r
RollsAt stage d m n r = Passes (at_mark d) (HasRolled d) m n r

abbrev pub RollSays : ℕ → LoopingCaller → LoopingCaller → Result Roll Misuse → Type 0
RollSays d m n r = RollsAt m.stage d m n r

abbrev pub DropsInto : ℕ → LoopingCaller → LoopingCaller → Result (Unit {0}) Misuse → Type 0
DropsInto d m n (Ok r) = (buffer_mark d m ≡ None) × (n.caller ≡ m.caller) × (n.buffer ≡ record m.buffer { marks = take (d - 1) m.buffer.marks }) × (n.plan ≡ m.plan) × (n.stage ≡ Buffered)
DropsInto d m n (Err e) = (buffer_mark d m ≡ Some e) × (n ≡ m)

abbrev pub DropsAt : Stage → ℕ → LoopingCaller → LoopingCaller → Result (Unit {0}) Misuse → Type 0
DropsAt Buffered d m n r = DropsInto d m n r
DropsAt Asking d m n r = IsAway m n r
DropsAt Committing d m n r = IsAway m n r
DropsAt stage d m n r = Passes (at_mark d) (HasDropped d) m n r

abbrev pub DropSays : ℕ → LoopingCaller → LoopingCaller → Result (Unit {0}) Misuse → Type 0
DropSays d m n r = DropsAt m.stage d m n r

-- TO BE IRREVOCABLE. Of a body, by what the call came to: once it can't stop, what it had written lies in the attempt
abbrev pub BindsBy : LoopingCaller → CheckedCaller → LoopingCaller → Result Irrev Misuse → Type 0
BindsBy m k n (Ok grants.Granted) = MadeNothing k n.caller × (n.stage ≡ Bound) × SameLog (log_of m) (known_to n.caller).log
BindsBy m k n (Ok (grants.Busy caller status)) = (n.caller ≡ k) × SameLoop m n
BindsBy m k n (Ok (grants.Taken gate)) = (n.caller ≡ k) × SameLoop m n
BindsBy m k n (Ok (grants.Conflict cause)) = (n.caller ≡ k) × (n.stage ≡ Lapsed)
BindsBy m k n (Ok (grants.ClockFull clock)) = (n.caller ≡ k) × (n.stage ≡ Lapsed)
BindsBy m k n (Err e) = n ≡ m

abbrev pub Binds : LoopingCaller → LoopingCaller → Result Irrev Misuse → Type 0
Binds m n r = (k : CheckedCaller) × Tells (running m.caller) (IsIrrevocable m.caller k) m.caller k r × BindsBy m k n r

abbrev pub GrantsAt : Stage → LoopingCaller → LoopingCaller → Result Irrev Misuse → Type 0
GrantsAt Free m n r = Passes running IsIrrevocable m n r
GrantsAt Lapsed m n r = Passes running IsIrrevocable m n r
GrantsAt Bound m n r = (r ≡ Ok grants.Granted) × (n ≡ m)
GrantsAt Direct m n r = Binds m n r
GrantsAt Buffered m n r = Binds m n r
GrantsAt Asking m n r = IsAway m n r
GrantsAt Committing m n r = IsAway m n r

abbrev pub GrantSays : LoopingCaller → LoopingCaller → Result Irrev Misuse → Type 0
GrantSays m n r = GrantsAt m.stage m n r

-- what its user sees: the marks of the buffer, and that what lies there can be taken back
abbrev pub marks_at : Stage → LoopingCaller → ℕ
marks_at Buffered m = length m.buffer.marks
marks_at stage m = live_marks (known_to m.caller)

abbrev pub irrevocable_at : Stage → LoopingCaller → Bool
irrevocable_at Buffered m = false
irrevocable_at stage m = (known_to m.caller).running && is_irrevocable (known_to m.caller)
