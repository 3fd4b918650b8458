-- The numbers of the answers.
use Rattle.std.specs.Prelude.{ℕ, Bool, true, false, ◌+◌, ◌==◌, ◌||◌, nat_le, if◌then◌else◌, Result, Ok, Err}
use Rattle.stm_model.specs.Algorithms.{alg_number}
use Rattle.stm_model.specs.declared.memory.Memory.{Memory}
use Rattle.stm_rule.specs.declared.refusal.NewError.{NewError}
use Rattle.stm_rule.specs.declared.refusal.NewError.TheVariants as sizes
use Rattle.stm_answers.specs.declared.answers.Begin.{Begin}
use Rattle.stm_answers.specs.declared.answers.Begin.TheVariants as begins
use Rattle.stm_answers.specs.declared.answers.Cancel.{Cancel}
use Rattle.stm_answers.specs.declared.answers.Cancel.TheVariants as cancels
use Rattle.stm_answers.specs.declared.answers.Check.{Check}
use Rattle.stm_answers.specs.declared.answers.Check.TheVariants as checks
use Rattle.stm_answers.specs.declared.answers.Commit.{Commit}
use Rattle.stm_answers.specs.declared.answers.Commit.TheVariants as commits
use Rattle.stm_answers.specs.declared.answers.Give.{Give}
use Rattle.stm_answers.specs.declared.answers.Give.TheVariants as gives
use Rattle.stm_answers.specs.declared.answers.Irrev.{Irrev}
use Rattle.stm_answers.specs.declared.answers.Irrev.TheVariants as grants
use Rattle.stm_answers.specs.declared.answers.Read.{Read}
use Rattle.stm_answers.specs.declared.answers.Read.TheVariants as reads
use Rattle.stm_answers.specs.declared.answers.Roll.{Roll}
use Rattle.stm_answers.specs.declared.answers.Roll.TheVariants as rolls
use Rattle.stm_answers.specs.declared.answers.Write.{Write}
use Rattle.stm_answers.specs.declared.answers.Write.TheVariants as writes
use Rattle.tx_loops.specs.declared.turn.How.{How}
use Rattle.tx_loops.specs.declared.turn.How.TheVariants as hows
use Rattle.tx_loops.specs.declared.turn.Turn.{Turn}
use Rattle.tx_loops.specs.declared.turn.Turn.TheVariants as turns
use Rattle.tx_checked.specs.declared.misuse.Misuse.{Misuse}
use Rattle.tx_checked.specs.declared.misuse.Misuse.TheVariants as wrong
use Rattle.tx_checked.specs.declared.opening.OpenError.{OpenError}
use Rattle.tx_checked.specs.declared.opening.OpenError.TheVariants as opens
use Rattle.tx_checked.specs.declared.peeking.Peek.{Peek}
use Rattle.tx_checked.specs.declared.peeking.Peek.TheVariants as peeks
use Rattle.tx_checked.specs.declared.refusal.Refusal.{Refusal}
use Rattle.tx_checked.specs.declared.refusal.Refusal.TheVariants as refusals

abbrev pub misuse_code : Misuse → ℕ
misuse_code wrong.NoAttempt = 17
misuse_code wrong.InAttempt = 18
misuse_code wrong.Committing = 19
misuse_code wrong.Address = 20
misuse_code wrong.Fenced = 25
misuse_code wrong.HoldsRange = 26
misuse_code wrong.NoRanges = 27
misuse_code wrong.NoRange = 28
misuse_code wrong.Depth = 30
misuse_code wrong.Logs = 31
misuse_code wrong.Room = 32
misuse_code wrong.Stranger = 39
misuse_code wrong.Closing = 40
misuse_code wrong.NotClosing = 41

abbrev pub refusal_code : Refusal → ℕ
refusal_code (refusals.Conflict cause) = 1
refusal_code (refusals.GateClosed gate) = 2
refusal_code (refusals.Held word) = 3
refusal_code (refusals.Busy caller status) = 4
refusal_code (refusals.Again word had now) = 5
refusal_code (refusals.ReadsFull limit) = 6
refusal_code (refusals.WritesFull limit) = 6
refusal_code (refusals.ClockFull clock) = 7
refusal_code refusals.Irrevocable = 8
refusal_code (refusals.Deep limit) = 9
refusal_code (refusals.RangeTaken gate) = 10

abbrev pub begin_code : Result Begin Misuse → ℕ
begin_code (Ok (begins.Begun alg)) = 0
begin_code (Ok (begins.Closed gate)) = 2
begin_code (Ok (begins.Held word)) = 3
begin_code (Ok (begins.ClockFull clock)) = 7
begin_code (Err e) = misuse_code e

-- the algorithm's number, and 8 more for an attempt beside a range
abbrev pub begin_value : Result Begin Misuse → Bool → ℕ → ℕ
begin_value (Ok (begins.Begun alg)) beside old = alg_number alg + (if beside then 8 else 0)
begin_value (Ok (begins.Closed gate)) beside old = old
begin_value (Ok (begins.Held word)) beside old = old
begin_value (Ok (begins.ClockFull clock)) beside old = old
begin_value (Err e) beside old = old

abbrev pub read_code : Result Read Misuse → ℕ
read_code (Ok (reads.Value x)) = 0
read_code (Ok (reads.Conflict cause)) = 1
read_code (Ok (reads.Full limit)) = 6
read_code (Err e) = misuse_code e

-- what the place for the word has then
abbrev pub read_value : Result Read Misuse → ℕ → ℕ
read_value (Ok (reads.Value x)) old = x
read_value (Ok (reads.Conflict cause)) old = old
read_value (Ok (reads.Full limit)) old = old
read_value (Err e) old = old

-- of a look at one word
abbrev pub peek_code : Result Peek Misuse → ℕ
peek_code (Ok (peeks.Value x)) = 0
peek_code (Ok peeks.Fenced) = 25
peek_code (Ok peeks.Closed) = 2
peek_code (Ok peeks.Held) = 3
peek_code (Ok peeks.ClockFull) = 7
peek_code (Ok peeks.Conflict) = 1
peek_code (Ok peeks.Full) = 6
peek_code (Err e) = misuse_code e

abbrev pub peek_value : Result Peek Misuse → ℕ → ℕ
peek_value (Ok (peeks.Value x)) old = x
peek_value (Ok r) old = old
peek_value (Err e) old = old

abbrev pub write_code : Result Write Misuse → ℕ
write_code (Ok writes.Done) = 0
write_code (Ok (writes.Conflict cause)) = 1
write_code (Ok (writes.Full limit)) = 6
write_code (Ok (writes.ClockFull clock)) = 7
write_code (Err e) = misuse_code e

-- 0 where it took effect
abbrev pub commit_code : Result Commit Misuse → ℕ
commit_code (Ok (commits.Committed time)) = 0
commit_code (Ok (commits.ReadOnly time)) = 0
commit_code (Ok (commits.Conflict cause)) = 1
commit_code (Ok (commits.Again word had now)) = 5
commit_code (Ok (commits.ClockFull clock)) = 7
commit_code (Err e) = misuse_code e

abbrev pub cancel_code : Result Cancel Misuse → ℕ
cancel_code (Ok (cancels.Cancelled time)) = 0
cancel_code (Ok cancels.Irrevocable) = 8
cancel_code (Err e) = misuse_code e

abbrev pub grant_code : Result Irrev Misuse → ℕ
grant_code (Ok grants.Granted) = 0
grant_code (Ok (grants.Busy caller status)) = 4
grant_code (Ok (grants.Taken gate)) = 2
grant_code (Ok (grants.Conflict cause)) = 1
grant_code (Ok (grants.ClockFull clock)) = 7
grant_code (Err e) = misuse_code e

abbrev pub mark_code : Result Check Misuse → ℕ
mark_code (Ok (checks.Marked depth)) = 0
mark_code (Ok (checks.Deep limit)) = 9
mark_code (Err e) = misuse_code e

abbrev pub mark_value : Result Check Misuse → ℕ → ℕ
mark_value (Ok (checks.Marked depth)) old = depth
mark_value (Ok (checks.Deep limit)) old = old
mark_value (Err e) old = old

abbrev pub roll_code : Result Roll Misuse → ℕ
roll_code (Ok rolls.Rolled) = 0
roll_code (Ok rolls.Irrevocable) = 8
roll_code (Err e) = misuse_code e

abbrev pub done_code : Result (Unit {0}) Misuse → ℕ
done_code (Ok r) = 0
done_code (Err e) = misuse_code e

abbrev pub word_code : Result ℕ Misuse → ℕ
word_code (Ok x) = 0
word_code (Err e) = misuse_code e

abbrev pub word_value : Result ℕ Misuse → ℕ → ℕ
word_value (Ok x) old = x
word_value (Err e) old = old

abbrev pub taken_code : Result (Result (Unit {0}) Refusal) Misuse → ℕ
taken_code (Ok (Ok r)) = 0
taken_code (Ok (Err e)) = refusal_code e
taken_code (Err e) = misuse_code e

abbrev pub given_code : Result (Result Give Refusal) Misuse → ℕ
given_code (Ok (Ok (gives.Committed time))) = 0
given_code (Ok (Ok gives.Unchanged)) = 0
given_code (Ok (Ok (gives.ClockFull clock))) = 7
given_code (Ok (Err e)) = refusal_code e
given_code (Err e) = misuse_code e

abbrev pub reserved_code : Result (Result (Unit {0}) Memory) Misuse → ℕ
reserved_code (Ok (Ok r)) = 0
reserved_code (Ok (Err e)) = 23
reserved_code (Err e) = misuse_code e

abbrev pub size_code : NewError → ℕ
size_code sizes.Words = 33
size_code sizes.Records = 34
size_code sizes.Ring = 35
size_code sizes.Callers = 36
size_code sizes.Logs = 37
size_code sizes.Clock = 38
size_code sizes.Marks = 37
size_code sizes.Memory = 23

abbrev pub open_code : OpenError → ℕ
open_code (opens.Refused e) = size_code e
open_code opens.Memory = 23
open_code (opens.Busy e) = 4

-- what a body came to that answered so: it was done; a status that another attempt may be spared; a full log; a word
-- that is out; it is to run again; else it stopped
abbrev pub how_numbered : ℕ → How
how_numbered n = if n == 0 then hows.Done else (if nat_le n 5 || (n == 52) then hows.Refused else (if n == 6 then hows.Full else (if n == 25 then hows.Fenced else (if n == 49 then hows.Retry else hows.Stopped))))

-- what is to be done next, after a body that answered `how`
abbrev pub turn_code : ℕ → Result Turn Misuse → ℕ
turn_code how (Ok turns.Run) = 51
turn_code how (Ok (turns.Pause times)) = 52
turn_code how (Ok turns.Sleep) = 52
turn_code how (Ok turns.Done) = 0
turn_code how (Ok turns.Over) = how
turn_code how (Ok turns.Full) = 6
turn_code how (Ok turns.ClockFull) = 7
turn_code how (Ok turns.Memory) = 23
turn_code how (Ok turns.Irrevocable) = 8
turn_code how (Err e) = misuse_code e

-- 0 where a wait is announced, and PAUSE where its user may sleep
abbrev pub wait_code : Result Bool Misuse → ℕ
wait_code (Ok false) = 0
wait_code (Ok true) = 52
wait_code (Err e) = misuse_code e
