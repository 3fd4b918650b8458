-- WHERE A LINE MAY COME by its caller's lines alone, whatever its script.
use Rattle.std.specs.Prelude.{ℕ, length, leb, Bool, true, false, List, [], ◌∷◌, if◌then◌else◌, Option, Some, None, replicate, slice_index_or, slice_set}
use Rattle.stm_answers.specs.declared.answers.Begin.TheVariants.{Begun}
use Rattle.stm_answers.specs.declared.answers.Cancel.TheVariants.{Cancelled}
use Rattle.stm_answers.specs.declared.answers.CloseGate.TheVariants.{Closed}
use Rattle.stm_answers.specs.declared.answers.Commit.TheVariants.{Committed, ReadOnly, Conflict, ClockFull}
use Rattle.stm_answers.specs.declared.answers.Irrev.TheVariants as irrevs
use Rattle.stm_answers.specs.declared.answers.Look.TheVariants as looks
use Rattle.work_check.specs.Grammar.{◌>>=◌}
use Rattle.work_trace.specs.declared.line.Line.{Line}
use Rattle.work_trace.specs.declared.line.Line.TheVariants.{Of, Finish}
use Rattle.work_trace.specs.declared.said.Phase.{Phase}
use Rattle.work_trace.specs.declared.said.Phase.TheVariants.{Between, Inside, Closing, Quiet}
use Rattle.work_trace.specs.declared.said.Said.{Said}
use Rattle.work_trace.specs.declared.said.Said.TheVariants.{TryBegin, Reply, Stopped, TryCancel, TryIrrevocable, TryCommit, TryClose, Looked, Installed, Reserved, Idle, Dropped, Reopened}

-- THE TABLE: which answers may come between two attempts, in one, and while the gate is closed
abbrev pub may_come : Phase → Said → Bool
may_come Between (TryBegin b) = true
may_come Between (TryClose c) = true
may_come Between (Reserved reads writes) = true
may_come Between Idle = true
may_come Inside (Reply op reply) = true
may_come Inside (Stopped op stop) = true
may_come Inside (TryCancel c) = true
may_come Inside (TryIrrevocable r) = true
may_come Inside (TryCommit c) = true
may_come Inside Dropped = true
may_come Closing (Looked l) = true
may_come Closing Reopened = true
may_come Quiet (Installed alg) = true
may_come Quiet Reopened = true
may_come phase said = false

-- and where the caller stands after each
abbrev pub phase_after : Phase → Said → Phase
phase_after phase (TryBegin (Begun alg)) = Inside
phase_after phase (Stopped op stop) = Between
phase_after phase (TryCancel (Cancelled time)) = Between
phase_after phase (TryIrrevocable (irrevs.Taken gate)) = Between
phase_after phase (TryIrrevocable (irrevs.Conflict cause)) = Between
phase_after phase (TryIrrevocable (irrevs.ClockFull clock)) = Between
phase_after phase (TryCommit (Committed time)) = Between
phase_after phase (TryCommit (ReadOnly time)) = Between
phase_after phase (TryCommit (Conflict cause)) = Between
phase_after phase (TryCommit (ClockFull clock)) = Between
phase_after phase (TryClose Closed) = Closing
phase_after phase (Looked looks.Quiet) = Quiet
phase_after phase (Installed alg) = Between
phase_after phase Dropped = Between
phase_after phase Reopened = Between
phase_after phase said = phase

abbrev pub phase_at : List Phase → ℕ → Phase
phase_at phases n = slice_index_or phases n Between

abbrev pub passed_by : List Phase → ℕ → Said → Option (List Phase)
passed_by phases n said = if may_come (phase_at phases n) said then Some (slice_set phases n (phase_after (phase_at phases n) said)) else None

-- where the callers stand after a line; none where it may not come
abbrev pub passed : List Phase → Line → Option (List Phase)
passed phases (Of n said) = if leb (length phases) n then None else passed_by phases n said
passed phases Finish = Some phases

-- at first no attempt is open
abbrev pub first_phases : List Phase
first_phases = replicate 32 Between

-- after these lines
abbrev pub passed_all : List Phase → List Line → Option (List Phase)
passed_all phases [] = Some phases
passed_all phases (line ∷ lines) = passed phases line >>= λ next. passed_all next lines
