-- What contracts see of a caller: its part in the history, its attempt, and the steps that it took.
use Rattle.std.specs.Prelude.{ℕ, ◌≡◌, ◌≤◌, ◌+◌, ◌&&◌, ◌||◌, max, not, Bool, true, false, if◌then◌else◌, List, [], ◌∷◌, ◌++◌, reverse, replicate, Option, Some, None}
use Rattle.stm_model.specs.Algorithms.{irrevocable_under}
use Rattle.stm_model.specs.declared.alg.Alg.{Alg}
use Rattle.stm_model.specs.declared.alg.Alg.TheVariants.{Cgl, Tml, OrecLazy, OrecEager, RingSw, Serial}
use Rattle.stm_model.specs.Histories.{Entry, Ascending}
use Rattle.stm_model.specs.HistoryLaws.{Within}
use Rattle.stm_model.specs.Logs.{Log}
use Rattle.stm_model.specs.Memories.{is_empty}
use Rattle.rule_base.specs.declared.layout.At.{At}
use Rattle.rule_base.specs.declared.layout.At.TheVariants.{Clock}
use Rattle.rule_base.specs.declared.seats.Role.{Role}
use Rattle.rule_base.specs.declared.seats.Role.TheVariants.{Dealer, Caller, Note, Spent}
use Rattle.rule_base.specs.declared.views.FenceView.{FenceView}
use Rattle.rule_base.specs.declared.views.GateView.{GateView}
use Rattle.rule_base.specs.declared.views.LockView.{LockView}
use Rattle.rule_base.specs.declared.views.Phase.{Phase}
use Rattle.rule_base.specs.declared.views.Phase.TheVariants.{Idle, Announced, Turned, Aiming, In, Closing}
use Rattle.rule_base.specs.declared.views.TracedStep.{TracedStep}
use Rattle.rule_base.specs.declared.views.View.{View}
use Rattle.rule_base.specs.Bridge.{addresses, items, public_history}
use Rattle.rule_base.specs.Own.{Own}
use Rattle.stm_answers.specs.declared.answers.TxState.{TxState}
use Rattle.stm_answers.specs.declared.answers.TxState.TheVariants as states

-- the range of words that a caller has taken out of the transactions, and what it did there
pub record Fenced : Type 0 where
  pub held : Bool
  pub number : ℕ
  -- what had been seen, and up to when, as it took the range: the memory there is that of this history
  pub seen : List Entry
  pub front : ℕ
  -- what it read there of words that it had not yet stored, and what it stored
  pub log : Log

pub record CallerState : Type 0 where
  -- its own entries, and all that it has seen, which are those up to its front; the oldest first
  pub made : List Entry
  pub seen : List Entry
  pub front : ℕ
  pub phase : Phase
  -- in an attempt, and there in the middle of its commit; or closing the gate
  pub running : Bool
  pub committing : Bool
  pub closing : Bool
  -- it has closed the gate, to install or to be alone with its attempt
  pub holds : Bool
  pub alg : Alg
  -- the fence of the gate that it loaded last, 0 for none
  pub fence : ℕ
  -- the callers that it has seen idle since it closed the gate; and whether it installed since:
  -- BASE and DONE are the clock
  pub checked : List ℕ
  pub settled : Bool
  -- the attempt was made irrevocable in flight
  pub granted : Bool
  -- by how much its steps raised the clock, in all and when its attempt began
  pub rises : ℕ
  pub base : ℕ
  -- the greatest clock that it found
  pub top : ℕ
  -- its steps, the latest first
  pub step_trace : List TracedStep
  pub installs : List Alg
  pub start : ℕ
  pub log : Log
  -- how many marks stand; and while the attempt can be taken back, what it had written at each, the oldest first
  pub depth : ℕ
  pub marks : List (List (ℕ × ℕ))
  -- the addresses that have an item in its write or undo log, the oldest first:
  -- a roll back takes none out of an undo log
  pub kept : List ℕ
  -- how many items its read log, and its write or undo log, may have; and how many marks may stand
  pub reads_limit : ℕ
  pub writes_limit : ℕ
  pub marks_limit : ℕ
  pub fenced : Fenced
  -- it holds the lock, beside which nobody else has it: the lock word, or under TML the odd clock
  pub locked : Bool

abbrev pub is_in : Phase → Bool
is_in Idle = false
is_in Announced = false
is_in Turned = false
is_in Aiming = false
is_in In = true
is_in Closing = false

abbrev pub is_closing : Phase → Bool
is_closing Idle = false
is_closing Announced = false
is_closing Turned = false
is_closing Aiming = false
is_closing In = false
is_closing Closing = true

abbrev pub number_or_zero : Option ℕ → ℕ
number_or_zero None = 0
number_or_zero (Some n) = n

abbrev pub clock_in : At → Option ℕ → ℕ
clock_in Clock found = number_or_zero found
clock_in place found = 0

-- the greatest clock among what was found
abbrev pub top_of : List TracedStep → ℕ
top_of [] = 0
top_of (i ∷ is) = max (clock_in i.place i.found) (top_of is)

-- it loaded the clock at rest, and BASE and DONE are that clock
abbrev pub is_settled : GateView → Bool
is_settled g = g.quiescent && g.rebased && g.completed

-- the grant of an attempt: under Serial its stores can't be taken back any more, under all others it is alone
abbrev pub granted_under : Alg → GateView → LockView → Bool
granted_under Cgl gate lock = gate.granted
granted_under Tml gate lock = gate.granted
granted_under OrecLazy gate lock = gate.granted
granted_under OrecEager gate lock = gate.granted
granted_under RingSw gate lock = gate.granted
granted_under Serial gate lock = lock.irrevocable

-- what an attempt locks all others out by: the lock that it took, or under TML that it is the writer
abbrev pub locked_under : Alg → Bool → Bool → Bool
locked_under Cgl taken writer = taken
locked_under Tml taken writer = writer
locked_under OrecLazy taken writer = taken
locked_under OrecEager taken writer = taken
locked_under RingSw taken writer = taken
locked_under Serial taken writer = taken

-- what an attempt wrote: it lies in the heap, under a record that it holds, or still with the descriptor; once granted
-- in the heap
abbrev pub written_under : Alg → Bool → View → Own → List (ℕ × ℕ)
written_under Cgl granted v own = items v.attempt.stores
written_under Tml granted v own = items v.attempt.stores
written_under OrecLazy false v own = items own.buffered
written_under OrecLazy true v own = items v.attempt.stores
written_under OrecEager false v own = items v.owned.in_place
written_under OrecEager true v own = items v.attempt.stores
written_under RingSw false v own = items own.buffered
written_under RingSw true v own = items v.attempt.stores
written_under Serial granted v own = items v.attempt.stores

-- the addresses with an item in the log that limits what the attempt may write: the write log of who buffers,
-- the undo log of who stores in place
abbrev pub kept_under : Alg → View → Own → List ℕ
kept_under Cgl v own = []
kept_under Tml v own = []
kept_under OrecLazy v own = addresses (items own.buffered)
kept_under OrecEager v own = addresses (items v.owned.undo)
kept_under RingSw v own = addresses (items own.buffered)
kept_under Serial v own = addresses (items v.lock.undo)

abbrev pub fenced_of : FenceView → Fenced
fenced_of f = record {
  held = f.holds;
  number = f.number;
  seen = public_history f.past.seen;
  front = f.past.front;
  log = record { reads = items f.reads; writes = items f.stores };
}

abbrev pub known_of : View → Own → CallerState
known_of v own = record {
  made = public_history v.history.made;
  seen = public_history v.history.seen;
  front = v.history.front;
  phase = v.gate.phase;
  running = is_in v.gate.phase;
  committing = own.committing;
  closing = is_closing v.gate.phase;
  holds = v.gate.holds;
  alg = v.gate.algorithm;
  fence = v.gate.fence;
  checked = v.gate.checked;
  settled = is_settled v.gate;
  granted = granted_under v.gate.algorithm v.gate v.lock;
  rises = v.steps.rises;
  base = v.steps.rises_at_begin;
  top = top_of v.steps.step_trace;
  step_trace = v.steps.step_trace;
  installs = reverse v.steps.installs;
  start = v.attempt.start;
  log = record { reads = items v.attempt.reads; writes = written_under v.gate.algorithm v.gate.granted v own };
  depth = own.depth;
  marks = own.marks;
  kept = kept_under v.gate.algorithm v own;
  reads_limit = own.reads_limit;
  writes_limit = own.writes_limit;
  marks_limit = own.marks_limit;
  fenced = fenced_of v.fence;
  locked = locked_under v.gate.algorithm v.lock.taken v.tml.writer;
}

abbrev pub is_none : List ℕ → Bool
is_none [] = true
is_none (a ∷ more) = false

-- a caller's number
abbrev pub caller_of : Role → ℕ
caller_of (Dealer n) = 0
caller_of (Caller n) = n
caller_of Note = 0
caller_of Spent = 0

abbrev pub no_log : Log
no_log = record { reads = []; writes = [] }

abbrev pub zeros : ℕ → List ℕ
zeros words = replicate words 0

-- in no attempt, and without the gate and the lock
abbrev pub IsIdle : CallerState → Type 0
IsIdle v = (v.phase ≡ Idle) × (v.running ≡ false) × (v.closing ≡ false) × (v.holds ≡ false) × (v.locked ≡ false)

-- in an attempt that is not in the middle of its commit
abbrev pub IsRunning : CallerState → Type 0
IsRunning v = (v.running ≡ true) × (v.committing ≡ false)

abbrev pub state_of : CallerState → TxState
state_of v = if v.running then (if v.committing then states.Committing v.alg else states.Running v.alg) else (if v.closing then states.Closing v.alg else states.Idle)

-- the attempt wrote something
abbrev pub wrote : CallerState → Bool
wrote v = not (is_empty v.log.writes)

-- the attempt wrote something, or did so before it was rolled back
abbrev pub has_written : CallerState → Bool
has_written v = wrote v || not (is_none v.kept)

-- it was not rolled back to before its first write
abbrev pub IsUnrolled : CallerState → Type 0
IsUnrolled v = wrote v ≡ false → v.kept ≡ []

abbrev pub is_irrevocable : CallerState → Bool
is_irrevocable v = irrevocable_under v.alg v.granted (wrote v)

-- by how much its steps raised the clock, with what an open attempt may still raise it
abbrev pub owed : CallerState → ℕ
owed v = if v.running then v.base + 2 else v.rises

-- it has seen at least as much, up to a later front: what it saw before begins what it sees now; its step trace has
-- grown, its logs are as long as they were, with room for as many marks, and its fence is as it was
pub record Grows (v w : CallerState) : Type 0 where
  pub later : List Entry
  pub is : w.seen ≡ v.seen ++ later
  pub ascending : Ascending v.front later
  pub up_to : Within w.front later
  pub front_rose : v.front ≤ w.front
  pub more : List TracedStep
  pub step_trace : w.step_trace ≡ more ++ v.step_trace
  pub reads_limit : w.reads_limit ≡ v.reads_limit
  pub writes_limit : w.writes_limit ≡ v.writes_limit
  pub marks_limit : w.marks_limit ≡ v.marks_limit
  pub fenced : w.fenced ≡ v.fenced
