-- Where a caller stands, as what was said so far tells.
use Rattle.std.specs.Prelude.{ℕ, ◌+◌, ◌==◌, leb, Bool, true, false, ◌||◌, ◌&&◌, not, max, List, [], ◌∷◌, ◌++◌, length, Option, Some, None, if◌then◌else◌}
use Rattle.stm_model.specs.Algorithms.{irrevocable_under}
use Rattle.stm_model.specs.declared.alg.Alg.{Alg}
use Rattle.work_profile.specs.declared.outcome.Outcome.{Outcome}
use Rattle.work_profile.specs.declared.outcome.Outcome.TheVariants as outcomes
use Rattle.work_profile.specs.declared.policy.Policy.{Policy}
use Rattle.work_profile.specs.Profiles.{Noted, with_outcome}
use Rattle.stm_model.specs.declared.stop.Stop.{Stop}
use Rattle.stm_model.specs.declared.stop.Stop.TheVariants.{Conflict, Full, ClockFull}
use Rattle.work_script.specs.declared.op.Op.{Op}
use Rattle.work_script.specs.declared.op.Op.TheVariants.{Read, Write, Add, Move, Cancel, Irrev, Emit, Count, Total, ListInsert, ListRemove, ListContains, ListLength, HashInsert, HashRemove, HashContains, TreeInsert, TreeRemove, TreeContains, TreeLeast, QueuePut, QueueGet, MapPut, MapRemove, MapGet, MapSum}
use Rattle.work_script.specs.Operations.{emits_of}
use Rattle.work_script.specs.declared.report.Kind.{Kind}
use Rattle.work_script.specs.declared.report.Kind.TheVariants.{W, R, C}
use Rattle.work_script.specs.declared.report.Row.{Row}
use Rattle.work_script.specs.declared.workload.Item.{Item}
use Rattle.work_script.specs.declared.workload.Item.TheVariants.{Tx, Switch, Reserve}
use Rattle.stm_answers.specs.declared.answers.Begin.TheVariants.{Begun, Closed, Held, ClockFull}
use Rattle.stm_answers.specs.declared.answers.Cancel.TheVariants.{Cancelled, Irrevocable}
use Rattle.stm_answers.specs.declared.answers.CloseGate.TheVariants.{Closed, Taken}
use Rattle.stm_answers.specs.declared.answers.Commit.TheVariants.{Committed, ReadOnly, Conflict, Again, ClockFull}
use Rattle.stm_answers.specs.declared.answers.Irrev.TheVariants as irrevs
use Rattle.stm_answers.specs.declared.answers.Look.TheVariants.{Quiet, Busy}
use Rattle.work_trace.specs.Adapting.{asked_by, no_profile, outcome_of}
use Rattle.work_trace.specs.declared.said.Phase.{Phase}
use Rattle.work_trace.specs.declared.said.Phase.TheVariants.{Between, Inside, Closing, Quiet}
use Rattle.work_trace.specs.declared.said.Said.{Said}
use Rattle.work_trace.specs.declared.said.Said.TheVariants.{TryBegin, Reply, Stopped, TryCancel, TryIrrevocable, TryCommit, TryClose, Looked, Installed, Reserved, Idle, Dropped, Reopened}

-- what the caller has still to do; of its next transaction how many attempts were in somebody's way, and whether it
-- must become irrevocable; of its last attempt the algorithm, and of an open one the operations still to come, the
-- replies and emits so far, whether it wrote, and whether it was granted to be irrevocable; its rows; and its policy,
-- what its attempts came to since it last switched by it, and the switch that it asks for,
-- which comes before the next item
pub record CallerProgress : Type 0 where
  pub caller : ℕ
  pub left : List Item
  pub failed : ℕ
  pub must : Bool
  pub phase : Phase
  pub alg : Alg
  pub rest : List Op
  pub replies : List ℕ
  pub emits : List ℕ
  pub wrote : Bool
  pub granted : Bool
  pub rows : List Row
  pub policy : Policy
  pub profile : Noted
  pub chosen : Option Alg
  -- the lengths of its logs
  pub reads_limit : ℕ
  pub writes_limit : ℕ

-- the operations of the first item
abbrev pub script_at : List Item → List Op
script_at [] = []
script_at (Tx caller script ∷ items) = script
script_at (Switch caller alg ∷ items) = []
script_at (Reserve caller reads writes ∷ items) = []

abbrev pub rest_of : {A : Type 0} → List A → List A
rest_of [] = []
rest_of (x ∷ xs) = xs

-- an operation that replied this wrote
abbrev pub writes : Op → ℕ → Bool
writes (Write a v) reply = true
writes (Add a k) reply = true
writes (Move a b k) reply = reply == 1
writes (Count r stripe k) reply = true
writes (ListInsert r key) reply = reply == 1
writes (ListRemove r key) reply = reply == 1
writes (HashInsert r key) reply = reply == 1
writes (HashRemove r key) reply = reply == 1
writes (TreeInsert r key) reply = reply == 1
writes (TreeRemove r key) reply = reply == 1
writes (QueuePut r v) reply = reply == 1
writes (QueueGet r) reply = not (reply == 0)
writes (MapPut r key v) reply = not (reply == 2)
writes (MapRemove r key) reply = reply == 1
writes op reply = false

abbrev pub may_write : Op → Bool
may_write (Read a) = false
may_write Cancel = false
may_write Irrev = false
may_write (Emit a) = false
may_write (Total r) = false
may_write (ListContains r key) = false
may_write (ListLength r) = false
may_write (HashContains r key) = false
may_write (TreeContains r key) = false
may_write (TreeLeast r) = false
may_write (MapGet r key) = false
may_write (MapSum r lo hi) = false
may_write op = true

-- so many attempts of a transaction are in somebody's way: then it must become irrevocable
abbrev pub most_failed : ℕ
most_failed = 16

-- the open attempt can't be cancelled
abbrev pub irrevocable : CallerProgress → Bool
irrevocable at = irrevocable_under at.alg at.granted at.wrote

-- it must become irrevocable before it goes on
abbrev pub is_forced : CallerProgress → Bool
is_forced at = at.must && not (irrevocable at)

-- a new attempt: nothing of an earlier one stays
abbrev pub begun : Alg → CallerProgress → CallerProgress
begun alg at = record at { phase = Inside; alg = alg; rest = script_at at.left; replies = []; emits = []; wrote = false; granted = false }

-- the next operation is done
abbrev pub replied : Op → ℕ → CallerProgress → CallerProgress
replied op reply at = record at { rest = rest_of at.rest; replies = at.replies ++ reply ∷ []; emits = at.emits ++ emits_of op reply; wrote = at.wrote || writes op reply }

-- the attempt is over, and its script still to do
abbrev pub given_up : CallerProgress → CallerProgress
given_up at = record at { phase = Between; replies = []; emits = [] }

-- another caller was in its way: so it is counted, until the next one must become irrevocable;
-- and what it came to is noted
abbrev pub failed_next : Bool → ℕ → ℕ
failed_next must failed = if must then failed else failed + 1

abbrev pub must_next : Bool → ℕ → Bool
must_next must failed = must || leb most_failed (failed + 1)

abbrev pub in_the_way : Outcome → CallerProgress → CallerProgress
in_the_way outcome at = record (given_up at) { failed = failed_next at.must at.failed; must = must_next at.must at.failed; profile = with_outcome at.profile outcome }

-- by why it was stopped: a log that is too short will be so again
abbrev pub stopped : Stop → CallerProgress → CallerProgress
stopped (Conflict cause) at = in_the_way outcomes.Conflict at
stopped (Full limit) at = record (given_up at) { must = true; profile = with_outcome at.profile outcomes.Full }
stopped (ClockFull clock) at = given_up at

-- granted: where `irrev` asked for it that operation is done
abbrev pub granted_at : Bool → CallerProgress → CallerProgress
granted_at true at = record at { granted = true }
granted_at false at = record (replied Irrev 1 at) { granted = true }

-- the transaction has ended, and has its row
abbrev pub row_at : Kind → ℕ → CallerProgress → Row
row_at kind time at = record { kind = kind; place = time; caller = at.caller; seq = length at.rows; replies = at.replies; emits = at.emits }

-- its last attempt is noted, and its policy asked
abbrev pub adapted : Outcome → CallerProgress → CallerProgress
adapted outcome at = record at { profile = with_outcome at.profile outcome; chosen = asked_by at.policy (with_outcome at.profile outcome) at.alg }

abbrev pub recorded : Kind → ℕ → CallerProgress → CallerProgress
recorded kind time at = record at { left = rest_of at.left; failed = 0; must = false; phase = Between; replies = []; emits = []; rows = at.rows ++ row_at kind time at ∷ [] }

abbrev pub ended : Kind → ℕ → CallerProgress → CallerProgress
ended kind time at = adapted (outcome_of kind) (recorded kind time at)

-- the switch is done: one that the policy asked for clears the profile
abbrev pub switched : Option Alg → CallerProgress → CallerProgress
switched None at = record at { phase = Between; left = rest_of at.left }
switched (Some alg) at = record at { phase = Between; profile = no_profile; chosen = None }

-- its logs are so long, or were longer
abbrev pub lengthened : ℕ → ℕ → CallerProgress → CallerProgress
lengthened reads writes at = record at { left = rest_of at.left; reads_limit = max at.reads_limit reads; writes_limit = max at.writes_limit writes }

-- where the caller stands after this was said
abbrev pub after : CallerProgress → Said → CallerProgress
after at (TryBegin (Begun alg)) = begun alg at
after at (Reply op reply) = replied op reply at
after at (Stopped op stop) = stopped stop at
after at (TryCancel (Cancelled time)) = ended C time (record at { replies = at.replies ++ 1 ∷ [] })
after at (TryCancel Irrevocable) = replied Cancel 0 at
after at (TryIrrevocable irrevs.Granted) = granted_at (is_forced at) at
after at (TryIrrevocable (irrevs.Taken gate)) = in_the_way outcomes.Cancelled at
after at (TryIrrevocable (irrevs.Conflict cause)) = in_the_way outcomes.Conflict at
after at (TryIrrevocable (irrevs.ClockFull clock)) = given_up at
after at (TryCommit (Committed time)) = ended W time at
after at (TryCommit (ReadOnly time)) = ended R time at
after at (TryCommit (Conflict cause)) = in_the_way outcomes.Conflict at
after at (TryCommit (ClockFull clock)) = given_up at
after at (TryClose Closed) = record at { phase = Closing }
after at (Looked Quiet) = record at { phase = Quiet }
after at (Installed alg) = switched at.chosen at
after at (Reserved reads writes) = lengthened reads writes at
after at Dropped = record (given_up at) { profile = with_outcome at.profile outcomes.Cancelled }
after at Reopened = record at { phase = Between }
after at said = at

-- the clock that was found at its limit
abbrev pub stop_clock : Stop → Option ℕ
stop_clock (Conflict cause) = None
stop_clock (Full limit) = None
stop_clock (ClockFull clock) = Some clock

abbrev pub clock_of : Said → Option ℕ
clock_of (TryBegin (ClockFull clock)) = Some clock
clock_of (Stopped op stop) = stop_clock stop
clock_of (TryIrrevocable (irrevs.ClockFull clock)) = Some clock
clock_of (TryCommit (ClockFull clock)) = Some clock
clock_of said = None

abbrev pub caller_in : Item → ℕ
caller_in (Tx caller script) = caller
caller_in (Switch caller alg) = caller
caller_in (Reserve caller reads writes) = caller

-- the items of one caller, in the order of the text
abbrev pub items_of : ℕ → List Item → List Item
items_of n [] = []
items_of n (i ∷ items) = if caller_in i == n then i ∷ items_of n items else items_of n items
