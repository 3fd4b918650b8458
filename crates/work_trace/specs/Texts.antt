-- The text of a trace.
use Rattle.std.specs.Prelude.{ℕ, List, [], ◌∷◌, ◌++◌, codes}
use Rattle.stm_model.specs.Algorithms.{alg_name}
use Rattle.std.specs.Fmt.{decimal}
use Rattle.stm_model.specs.declared.stop.Cause.{Cause}
use Rattle.stm_model.specs.declared.stop.Cause.TheVariants.{Clock, Record, Moved, Filter, Overrun}
use Rattle.stm_model.specs.declared.stop.Stop.{Stop}
use Rattle.stm_model.specs.declared.stop.Stop.TheVariants.{Conflict, Full, ClockFull}
use Rattle.work_script.specs.Operations.{op_name}
use Rattle.stm_answers.specs.declared.answers.Begin.TheVariants.{Begun, Closed, Held, ClockFull}
use Rattle.stm_answers.specs.declared.answers.Cancel.TheVariants.{Cancelled, Irrevocable}
use Rattle.stm_answers.specs.declared.answers.CloseGate.TheVariants.{Closed, Taken}
use Rattle.stm_answers.specs.declared.answers.Commit.TheVariants.{Committed, ReadOnly, Conflict, Again, ClockFull}
use Rattle.stm_answers.specs.declared.answers.Irrev.TheVariants as irrevs
use Rattle.stm_answers.specs.declared.answers.Look.TheVariants.{Quiet, Busy}
use Rattle.work_trace.specs.declared.line.Line.{Line}
use Rattle.work_trace.specs.declared.line.Line.TheVariants.{Of, Finish}
use Rattle.work_trace.specs.declared.said.Said.{Said}
use Rattle.work_trace.specs.declared.said.Said.TheVariants.{TryBegin, Reply, Stopped, TryCancel, TryIrrevocable, TryCommit, TryClose, Looked, Installed, Reserved, Idle, Dropped, Reopened}

-- numbers, each with a space before it
abbrev pub spaced : List ℕ → List ℕ
spaced [] = []
spaced (n ∷ ns) = 32 ∷ decimal n ++ spaced ns

abbrev pub cause_bytes : Cause → List ℕ
cause_bytes (Clock had now) = codes " conflict clock" ++ spaced (had ∷ now ∷ [])
cause_bytes (Record index word start) = codes " conflict record" ++ spaced (index ∷ word ∷ start ∷ [])
cause_bytes (Moved index before after) = codes " conflict moved" ++ spaced (index ∷ before ∷ after ∷ [])
cause_bytes (Filter time bits) = codes " conflict filter" ++ spaced (time ∷ bits ∷ [])
cause_bytes (Overrun start clock) = codes " conflict overrun" ++ spaced (start ∷ clock ∷ [])

abbrev pub full_clock_bytes : ℕ → List ℕ
full_clock_bytes clock = codes " clockfull" ++ spaced (clock ∷ [])

abbrev pub stop_bytes : Stop → List ℕ
stop_bytes (Conflict cause) = cause_bytes cause
stop_bytes (Full limit) = codes " full" ++ spaced (limit ∷ [])
stop_bytes (ClockFull clock) = full_clock_bytes clock

-- what a turn says, after the caller
abbrev pub said_bytes : Said → List ℕ
said_bytes (TryBegin (Begun alg)) = codes " begin " ++ alg_name alg
said_bytes (TryBegin (Closed gate)) = codes " begin closed" ++ spaced (gate ∷ [])
said_bytes (TryBegin (Held word)) = codes " begin held" ++ spaced (word ∷ [])
said_bytes (TryBegin (ClockFull clock)) = codes " begin" ++ full_clock_bytes clock
said_bytes (Reply op reply) = codes " " ++ (op_name op ++ spaced (reply ∷ []))
said_bytes (Stopped op stop) = codes " " ++ (op_name op ++ stop_bytes stop)
said_bytes (TryCancel (Cancelled time)) = codes " cancel cancelled" ++ spaced (time ∷ [])
said_bytes (TryCancel Irrevocable) = codes " cancel irrevocable"
said_bytes (TryIrrevocable irrevs.Granted) = codes " irrev granted"
said_bytes (TryIrrevocable (irrevs.Busy caller status)) = codes " irrev busy" ++ spaced (caller ∷ status ∷ [])
said_bytes (TryIrrevocable (irrevs.Taken gate)) = codes " irrev taken" ++ spaced (gate ∷ [])
said_bytes (TryIrrevocable (irrevs.Conflict cause)) = codes " irrev" ++ cause_bytes cause
said_bytes (TryIrrevocable (irrevs.ClockFull clock)) = codes " irrev" ++ full_clock_bytes clock
said_bytes (TryCommit (Committed time)) = codes " commit committed" ++ spaced (time ∷ [])
said_bytes (TryCommit (ReadOnly time)) = codes " commit readonly" ++ spaced (time ∷ [])
said_bytes (TryCommit (Conflict cause)) = codes " commit" ++ cause_bytes cause
said_bytes (TryCommit (Again word had now)) = codes " commit again" ++ spaced (word ∷ had ∷ now ∷ [])
said_bytes (TryCommit (ClockFull clock)) = codes " commit" ++ full_clock_bytes clock
said_bytes (TryClose Closed) = codes " close closed"
said_bytes (TryClose (Taken gate)) = codes " close taken" ++ spaced (gate ∷ [])
said_bytes (Looked Quiet) = codes " look quiet"
said_bytes (Looked (Busy caller status)) = codes " look busy" ++ spaced (caller ∷ status ∷ [])
said_bytes (Installed alg) = codes " install " ++ alg_name alg
said_bytes (Reserved reads writes) = codes " reserve" ++ spaced (reads ∷ writes ∷ [])
said_bytes Idle = codes " idle"
said_bytes Dropped = codes " drop"
said_bytes Reopened = codes " reopen"

-- `CALLER WORD ..`, or `finish`
abbrev pub line_bytes : Line → List ℕ
line_bytes (Of caller said) = decimal caller ++ (said_bytes said ++ codes "\n")
line_bytes Finish = codes "finish\n"

abbrev pub trace_bytes : List Line → List ℕ
trace_bytes [] = []
trace_bytes (line ∷ lines) = line_bytes line ++ trace_bytes lines
