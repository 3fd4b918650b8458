-- THE TABLE OF TURNS: what may be said where a caller stands, and with which numbers.
use Rattle.std.specs.Prelude.{ℕ, ◌≡◌, ◌≢◌, ◌<◌, ◌≤◌, ◌+◌, ◌⊎◌, ◌||◌, Bool, true, false, List, [], ◌∷◌, Option, Some, None}
use Rattle.rule_base.specs.Encodings.{holder_of, is_owned, owner_of, version_of}
use Rattle.stm_model.specs.Algorithms.{has_records, has_read_log, logs_writes, closes_gate, asks_at_write, asks_at_commit, asks_at_grant}
use Rattle.stm_model.specs.declared.config.Config.{Config}
use Rattle.stm_model.specs.declared.config.TheConstants.{CLOCK_LIMIT}
use Rattle.stm_model.specs.declared.alg.Alg.{Alg}
use Rattle.stm_model.specs.declared.alg.Alg.TheVariants.{Tml, RingSw}
use Rattle.stm_model.specs.declared.stop.Cause.{Cause}
use Rattle.stm_model.specs.declared.stop.Cause.TheVariants.{Clock, Record, Moved, Filter, Overrun}
use Rattle.stm_model.specs.declared.stop.Stop.{Stop}
use Rattle.stm_model.specs.declared.stop.Stop.TheVariants.{Conflict, Full, ClockFull}
use Rattle.work_script.specs.declared.op.Op.{Op}
use Rattle.work_script.specs.declared.op.Op.TheVariants.{Cancel, Irrev}
use Rattle.work_script.specs.Operations.{is_cancel, is_irrev}
use Rattle.work_script.specs.declared.workload.Header.{Header}
use Rattle.work_script.specs.declared.workload.Item.{Item}
use Rattle.work_script.specs.declared.workload.Item.TheVariants.{Tx, Switch, Reserve}
use Rattle.stm_answers.specs.declared.answers.Begin.TheVariants.{Begun, Closed, Held, ClockFull}
use Rattle.stm_answers.specs.declared.answers.Cancel.TheVariants.{Cancelled, Irrevocable}
use Rattle.stm_answers.specs.declared.answers.CloseGate.TheVariants.{Closed, Taken}
use Rattle.stm_answers.specs.declared.answers.Commit.TheVariants.{Committed, ReadOnly, Conflict, Again, ClockFull}
use Rattle.stm_answers.specs.declared.answers.Irrev.TheVariants as irrevs
use Rattle.stm_answers.specs.declared.answers.Look.TheVariants.{Quiet, Busy}
use Rattle.work_trace.specs.declared.said.Phase.TheVariants.{Between, Inside, Closing, Quiet}
use Rattle.work_trace.specs.declared.said.Said.{Said}
use Rattle.work_trace.specs.declared.said.Said.TheVariants.{TryBegin, Reply, Stopped, TryCancel, TryIrrevocable, TryCommit, TryClose, Looked, Installed, Reserved, Idle, Dropped, Reopened}
use Rattle.work_trace.specs.Places.{CallerProgress, may_write, irrevocable, is_forced}

-- a transaction comes next
abbrev pub BeforeTx : List Item → Type 0
BeforeTx [] = ⊥
BeforeTx (Tx caller script ∷ items) = Unit {0}
BeforeTx (Switch caller alg ∷ items) = ⊥
BeforeTx (Reserve caller reads writes ∷ items) = ⊥

-- a switch comes next
abbrev pub BeforeSwitch : List Item → Type 0
BeforeSwitch [] = ⊥
BeforeSwitch (Tx caller script ∷ items) = ⊥
BeforeSwitch (Switch caller alg ∷ items) = Unit {0}
BeforeSwitch (Reserve caller reads writes ∷ items) = ⊥

-- logs of these lengths come next
abbrev pub Lengthens : ℕ → ℕ → List Item → Type 0
Lengthens reads writes [] = ⊥
Lengthens reads writes (Tx caller script ∷ items) = ⊥
Lengthens reads writes (Switch caller alg ∷ items) = ⊥
Lengthens reads writes (Reserve caller r w ∷ items) = (r ≡ reads) × (w ≡ writes)

-- a switch to this algorithm comes next
abbrev pub SwitchesTo : Alg → List Item → Type 0
SwitchesTo alg [] = ⊥
SwitchesTo alg (Tx caller script ∷ items) = ⊥
SwitchesTo alg (Switch caller to ∷ items) = to ≡ alg
SwitchesTo alg (Reserve caller reads writes ∷ items) = ⊥

-- the caller's policy asks for a switch, or one comes next
abbrev pub MustSwitch : Option Alg → List Item → Type 0
MustSwitch None left = BeforeSwitch left
MustSwitch (Some chosen) left = Unit {0}

-- to this algorithm
abbrev pub MustSwitchTo : Alg → Option Alg → List Item → Type 0
MustSwitchTo alg None left = SwitchesTo alg left
MustSwitchTo alg (Some chosen) left = chosen ≡ alg

-- this operation comes next
abbrev pub Next : Op → List Op → Type 0
Next op [] = ⊥
Next op (o ∷ ops) = o ≡ op

-- nothing is left to the caller
abbrev pub IsOver : CallerProgress → Type 0
IsOver at = (at.phase ≡ Between) × (at.left ≡ []) × (at.chosen ≡ None)

-- the operation asks for something of the attempt, and not of the memory
abbrev pub is_call : Op → Bool
is_call op = is_cancel op || is_irrev op

-- the script goes on with this operation
abbrev pub Comes : Op → CallerProgress → Type 0
Comes op at = (at.phase ≡ Inside) × (is_forced at ≡ false) × Next op at.rest

-- where it may be said, while the schedule goes on
abbrev pub MaySay : CallerProgress → Said → Type 0
MaySay at (TryBegin b) = (at.phase ≡ Between) × BeforeTx at.left × (at.chosen ≡ None)
MaySay at (Reply op reply) = Comes op at × (is_call op ≡ false)
MaySay at (Stopped op stop) = Comes op at × (is_call op ≡ false)
MaySay at (TryCancel c) = Comes Cancel at
MaySay at (TryIrrevocable r) = ((at.phase ≡ Inside) × (is_forced at ≡ true)) ⊎ Comes Irrev at
MaySay at (TryCommit c) = (at.phase ≡ Inside) × (is_forced at ≡ false) × (at.rest ≡ [])
MaySay at (TryClose c) = (at.phase ≡ Between) × MustSwitch at.chosen at.left
MaySay at (Looked l) = at.phase ≡ Closing
MaySay at (Installed alg) = (at.phase ≡ Quiet) × MustSwitchTo alg at.chosen at.left
MaySay at (Reserved reads writes) = (at.phase ≡ Between) × Lengthens reads writes at.left × (at.chosen ≡ None)
MaySay at Idle = IsOver at
MaySay at Dropped = ⊥
MaySay at Reopened = ⊥

-- once the schedule is over, until no attempt and no closing is open:
-- an attempt that can't be cancelled goes on to its end
abbrev pub MayWind : CallerProgress → Said → Type 0
MayWind at Dropped = (at.phase ≡ Inside) × (irrevocable at ≡ false)
MayWind at Reopened = (at.phase ≡ Closing) ⊎ (at.phase ≡ Quiet)
MayWind at said = (at.phase ≡ Inside) × (irrevocable at ≡ true) × MaySay at said

-- and then: nobody says that nothing is left
abbrev pub MayFinish : CallerProgress → Said → Type 0
MayFinish at Idle = ⊥
MayFinish at said = MaySay at said

-- the memory has the sizes of this header
abbrev pub HasSizes : Config → Header → Type 0
HasSizes c h = (h.words ≡ c.words) × (h.records ≡ c.records) × (h.ring ≡ c.ring) × (h.callers ≡ c.callers) × (h.reads ≡ c.reads) × (h.writes ≡ c.writes)

-- h is the workload's header
module _ (h : Header) where
  -- the number, as that of a holder, names another caller of the header
  abbrev pub NamesOther : CallerProgress → ℕ → Type 0
  NamesOther at holder = (holder ≢ 0) × (holder ≢ 1 + at.caller) × (holder < 1 + h.callers)

  -- another caller's doing: with one caller there is none
  abbrev pub HasOthers : Type 0
  HasOthers = 1 < h.callers

  -- a conflict comes under the algorithm of the attempt, with the inequality of its cause
  abbrev pub IsFairCause : CallerProgress → Cause → Type 0
  IsFairCause at (Clock had now) = (at.alg ≡ Tml) × (had ≢ now)
  IsFairCause at (Record index word start) = (has_records at.alg ≡ true) × (index < h.records)
      × (((is_owned word ≡ true) × (owner_of word ≢ at.caller)) ⊎ ((is_owned word ≡ false) × (start < version_of word)))
  IsFairCause at (Moved index before after) = (has_records at.alg ≡ true) × (index < h.records) × (before ≢ after)
  IsFairCause at (Filter time bits) = (at.alg ≡ RingSw) × (0 < time) × (bits ≢ 0)
  IsFairCause at (Overrun start clock) = (at.alg ≡ RingSw) × (start + h.ring ≤ clock)

  -- another commit was faster: at the clock, or at the lock
  abbrev pub IsFairAgain : CallerProgress → ℕ → ℕ → ℕ → Type 0
  IsFairAgain at word had now = ((word ≡ 0) × (has_records at.alg ≡ true) × (had ≢ now)) ⊎ ((word ≡ 1) × (at.alg ≡ RingSw) × (had ≡ 0) × NamesOther at now)

  -- the length of a log that the algorithm has
  abbrev pub IsFairLimit : CallerProgress → ℕ → Type 0
  IsFairLimit at limit = ((has_read_log at.alg ≡ true) × (limit ≡ at.reads_limit)) ⊎ ((logs_writes at.alg ≡ true) × (limit ≡ at.writes_limit))

  abbrev pub IsFairStop : CallerProgress → Op → Stop → Type 0
  IsFairStop at op (Conflict cause) = HasOthers × IsFairCause at cause
  IsFairStop at op (Full limit) = IsFairLimit at limit
  IsFairStop at op (ClockFull clock) = (CLOCK_LIMIT ≤ clock) × (asks_at_write at.alg ≡ true) × (may_write op ≡ true)

  -- an attempt that can be cancelled waits to be alone
  abbrev pub IsFairWait : CallerProgress → Type 0
  IsFairWait at = (irrevocable at ≡ false) × (closes_gate at.alg ≡ true) × HasOthers

  -- THE NUMBERS of each answer are such as its cause allows; who can't be cancelled is not refused
  abbrev pub IsFair : CallerProgress → Said → Type 0
  IsFair at (TryBegin (Closed gate)) = HasOthers × NamesOther at (holder_of gate)
  IsFair at (TryBegin (Held word)) = HasOthers × (word ≢ 0)
  IsFair at (TryBegin (ClockFull clock)) = CLOCK_LIMIT ≤ clock
  IsFair at (Stopped op stop) = (irrevocable at ≡ false) × IsFairStop at op stop
  IsFair at (TryCancel (Cancelled time)) = irrevocable at ≡ false
  IsFair at (TryCancel Irrevocable) = irrevocable at ≡ true
  IsFair at (TryIrrevocable (irrevs.Busy caller status)) = IsFairWait at × (caller < h.callers) × (caller ≢ at.caller) × (status ≢ 0)
  IsFair at (TryIrrevocable (irrevs.Taken gate)) = IsFairWait at × NamesOther at (holder_of gate)
  IsFair at (TryIrrevocable (irrevs.Conflict cause)) = (irrevocable at ≡ false) × HasOthers × IsFairCause at cause
  IsFair at (TryIrrevocable (irrevs.ClockFull clock)) = (irrevocable at ≡ false) × (CLOCK_LIMIT ≤ clock) × (asks_at_grant at.alg ≡ true)
  IsFair at (TryCommit (Committed time)) = at.wrote ≡ true
  IsFair at (TryCommit (ReadOnly time)) = at.wrote ≡ false
  IsFair at (TryCommit (Conflict cause)) = (irrevocable at ≡ false) × HasOthers × IsFairCause at cause × (at.wrote ≡ true)
  IsFair at (TryCommit (Again word had now)) = (irrevocable at ≡ false) × HasOthers × IsFairAgain at word had now × (at.wrote ≡ true)
  IsFair at (TryCommit (ClockFull clock)) = (irrevocable at ≡ false) × (CLOCK_LIMIT ≤ clock) × (asks_at_commit at.alg ≡ true) × (at.wrote ≡ true)
  IsFair at (TryClose (Taken gate)) = HasOthers × NamesOther at (holder_of gate)
  IsFair at (Looked (Busy caller status)) = HasOthers × (caller < h.callers) × (caller ≢ at.caller) × (status ≢ 0)
  IsFair at said = Unit {0}
