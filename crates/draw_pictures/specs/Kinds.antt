-- What each line of a trace is to a reader of its picture.
use Rattle.std.specs.Prelude.{ℕ, Bool, true, false, List, codes}
use Rattle.stm_model.specs.declared.stop.Stop.{Stop}
use Rattle.stm_model.specs.declared.stop.Stop.TheVariants.{Conflict, Full, ClockFull}
use Rattle.stm_answers.specs.declared.answers.Begin.TheVariants.{Begun, Closed, ClockFull}
use Rattle.stm_answers.specs.declared.answers.Cancel.TheVariants.{Cancelled, Irrevocable}
use Rattle.stm_answers.specs.declared.answers.CloseGate.TheVariants.{Closed}
use Rattle.stm_answers.specs.declared.answers.Commit.TheVariants.{Committed, ReadOnly, Conflict, ClockFull}
use Rattle.stm_answers.specs.declared.answers.Irrev.TheVariants as irrevs
use Rattle.stm_answers.specs.declared.answers.Look.TheVariants.{Quiet}
use Rattle.work_trace.specs.declared.line.Line.{Line}
use Rattle.work_trace.specs.declared.line.Line.TheVariants.{Of, Finish}
use Rattle.work_trace.specs.declared.said.Said.{Said}
use Rattle.work_trace.specs.declared.said.Said.TheVariants.{TryBegin, Reply, Stopped, TryCancel, TryIrrevocable, TryCommit, TryClose, Looked, Installed, Reserved, Idle, Dropped, Reopened}
use Rattle.draw_pictures.specs.declared.kind.Kind.{Kind}
use Rattle.draw_pictures.specs.declared.kind.Kind.TheVariants.{Begins, Waits, Holds, Works, Promotes, Commits, Reads, Cancels, Conflicts, Overflows, Closes, Sees, Installs, Reopens, Idles, Finishes}

abbrev pub stop_kind : Stop → Kind
stop_kind (Conflict cause) = Conflicts
stop_kind (Full limit) = Overflows
stop_kind (ClockFull clock) = Overflows

-- THE TABLE: the kind of each answer
abbrev pub said_kind : Said → Kind
said_kind (TryBegin (Begun alg)) = Begins alg
said_kind (TryBegin (ClockFull clock)) = Overflows
said_kind (Reply op reply) = Works
said_kind (Stopped op stop) = stop_kind stop
said_kind (TryCancel (Cancelled time)) = Cancels
said_kind (TryCancel Irrevocable) = Works
said_kind (TryIrrevocable irrevs.Granted) = Promotes
said_kind (TryIrrevocable (irrevs.Busy caller status)) = Holds
said_kind (TryIrrevocable (irrevs.Taken gate)) = Cancels
said_kind (TryIrrevocable (irrevs.Conflict cause)) = Conflicts
said_kind (TryIrrevocable (irrevs.ClockFull clock)) = Overflows
said_kind (TryCommit (Committed time)) = Commits time
said_kind (TryCommit (ReadOnly time)) = Reads
said_kind (TryCommit (Conflict cause)) = Conflicts
said_kind (TryCommit (ClockFull clock)) = Overflows
said_kind (TryClose Closed) = Closes
said_kind (Looked Quiet) = Sees
said_kind (Installed alg) = Installs alg
said_kind (Reserved reads writes) = Works
said_kind Idle = Idles
said_kind Dropped = Cancels
said_kind Reopened = Reopens
said_kind said = Waits

abbrev pub kind_of : Line → Kind
kind_of (Of caller said) = said_kind said
kind_of Finish = Finishes

-- the class of its shapes in the picture's style
abbrev pub class_of : Kind → List ℕ
class_of (Begins alg) = codes "begin"
class_of Waits = codes "wait"
class_of Holds = codes "wait"
class_of Works = codes "work"
class_of Promotes = codes "irrev"
class_of (Commits time) = codes "commit"
class_of Reads = codes "read"
class_of Cancels = codes "cancel"
class_of Conflicts = codes "conflict"
class_of Overflows = codes "full"
class_of Closes = codes "gate"
class_of Sees = codes "gate"
class_of (Installs alg) = codes "install"
class_of Reopens = codes "gate"
class_of Idles = codes "idle"
class_of Finishes = codes "finish"

-- an attempt ends, or its caller's next one begins
abbrev pub ends_attempt : Kind → Bool
ends_attempt (Begins alg) = true
ends_attempt (Commits time) = true
ends_attempt Reads = true
ends_attempt Cancels = true
ends_attempt Conflicts = true
ends_attempt Overflows = true
ends_attempt k = false

abbrev pub is_finish : Kind → Bool
is_finish Finishes = true
is_finish k = false

abbrev pub is_idle : Kind → Bool
is_idle Idles = true
is_idle k = false

abbrev pub is_begin : Kind → Bool
is_begin (Begins alg) = true
is_begin k = false

abbrev pub is_commit : Kind → Bool
is_commit (Commits time) = true
is_commit k = false

abbrev pub is_promotion : Kind → Bool
is_promotion Promotes = true
is_promotion k = false

-- it asks to be alone, or was granted it
abbrev pub is_holding : Kind → Bool
is_holding Promotes = true
is_holding Holds = true
is_holding k = false

abbrev pub is_closing : Kind → Bool
is_closing Closes = true
is_closing k = false

abbrev pub is_opening : Kind → Bool
is_opening (Installs alg) = true
is_opening Reopens = true
is_opening k = false
