-- WHAT IS SO OF EACH TEXT THAT `step` WRITES.
use Rattle.std.specs.Prelude.{ℕ, ◌≡◌, ◌<◌, ◌≤◌, ◌⊎◌, false, List, [], ◌∷◌, ◌++◌, length, codes, None, Ok}
use Rattle.std.specs.Fmt.{decimal}
use Rattle.stm_model.specs.declared.config.TheConstants.{MAX_CALLERS}
use Rattle.stm_model.specs.declared.stop.Cause.{Cause}
use Rattle.stm_model.specs.declared.stop.Cause.TheVariants.{Clock, Record, Moved, Filter, Overrun}
use Rattle.stm_model.specs.declared.stop.Stop.{Stop}
use Rattle.stm_model.specs.declared.stop.Stop.TheVariants.{Conflict, Full, ClockFull}
use Rattle.work_script.specs.declared.report.Report.{Report}
use Rattle.work_text.specs.Reports.{report_bytes, IsWord}
use Rattle.work_check.specs.Texts.{IsReadable}
use Rattle.stm_answers.specs.declared.answers.Begin.TheVariants.{Closed, Held, ClockFull}
use Rattle.stm_answers.specs.declared.answers.Cancel.TheVariants.{Cancelled}
use Rattle.stm_answers.specs.declared.answers.CloseGate.TheVariants.{Closed, Taken}
use Rattle.stm_answers.specs.declared.answers.Commit.TheVariants.{Committed, ReadOnly, Conflict, Again, ClockFull}
use Rattle.stm_answers.specs.declared.answers.Irrev.TheVariants as irrevs
use Rattle.stm_answers.specs.declared.answers.Look.TheVariants.{Busy}
use Rattle.work_trace.specs.declared.line.Line.{Line}
use Rattle.work_trace.specs.declared.line.Line.TheVariants.{Of, Finish}
use Rattle.work_trace.specs.declared.said.Said.{Said}
use Rattle.work_trace.specs.declared.said.Said.TheVariants.{TryBegin, Reply, Stopped, TryCancel, TryIrrevocable, TryCommit, TryClose, Looked, Reserved}
use Rattle.work_script.specs.declared.workload.Workload.{Workload}
use Rattle.work_trace.specs.Fits.{TraceFits, TraceFitsSoFar}
use Rattle.work_trace.specs.Texts.{trace_bytes}
use Rattle.work_trace.specs.Turns.{is_call}
use Rattle.draw_core.specs.declared.reading.TheConstants.{MOST_DRAWN}
use Rattle.draw_core.specs.Grammar.{trace_of}
use Rattle.draw_pictures.specs.Shapes.{line_boxes}
use Rattle.draw_pictures.specs.Steps.{bare_of}
use Rattle.draw_core.specs.Walks.{told_steps}

-- the numbers of an answer are words of the machine, as in each line that code holds

abbrev pub CauseHasWords : Cause → Type 0
CauseHasWords (Clock had now) = IsWord had × IsWord now
CauseHasWords (Record index word start) = IsWord index × IsWord word × IsWord start
CauseHasWords (Moved index before after) = IsWord index × IsWord before × IsWord after
CauseHasWords (Filter time bits) = IsWord time × IsWord bits
CauseHasWords (Overrun start clock) = IsWord start × IsWord clock

abbrev pub StopHasWords : Stop → Type 0
StopHasWords (Conflict cause) = CauseHasWords cause
StopHasWords (Full limit) = IsWord limit
StopHasWords (ClockFull clock) = IsWord clock

abbrev pub SaidHasWords : Said → Type 0
SaidHasWords (TryBegin (Closed gate)) = IsWord gate
SaidHasWords (TryBegin (Held word)) = IsWord word
SaidHasWords (TryBegin (ClockFull clock)) = IsWord clock
SaidHasWords (Reply op reply) = IsWord reply
SaidHasWords (Stopped op stop) = StopHasWords stop
SaidHasWords (TryCancel (Cancelled time)) = IsWord time
SaidHasWords (TryIrrevocable (irrevs.Busy caller status)) = IsWord caller × IsWord status
SaidHasWords (TryIrrevocable (irrevs.Taken gate)) = IsWord gate
SaidHasWords (TryIrrevocable (irrevs.Conflict cause)) = CauseHasWords cause
SaidHasWords (TryIrrevocable (irrevs.ClockFull clock)) = IsWord clock
SaidHasWords (TryCommit (Committed time)) = IsWord time
SaidHasWords (TryCommit (ReadOnly time)) = IsWord time
SaidHasWords (TryCommit (Conflict cause)) = CauseHasWords cause
SaidHasWords (TryCommit (Again word had now)) = IsWord word × IsWord had × IsWord now
SaidHasWords (TryCommit (ClockFull clock)) = IsWord clock
SaidHasWords (TryClose (Taken gate)) = IsWord gate
SaidHasWords (Looked (Busy caller status)) = IsWord caller × IsWord status
SaidHasWords (Reserved reads writes) = IsWord reads × IsWord writes
SaidHasWords said = Unit {0}

abbrev pub LinesHaveWords : List Line → Type 0
LinesHaveWords [] = Unit {0}
LinesHaveWords (Of caller said ∷ lines) = SaidHasWords said × LinesHaveWords lines
LinesHaveWords (Finish ∷ lines) = LinesHaveWords lines

-- what an operation replied, or why it ended its attempt, is of one that works on the memory
abbrev pub IsOfMemory : Said → Type 0
IsOfMemory (Reply op reply) = is_call op ≡ false
IsOfMemory (Stopped op stop) = is_call op ≡ false
IsOfMemory said = Unit {0}

-- the callers are such as a workload may have
abbrev pub LinesFit : List Line → Type 0
LinesFit [] = Unit {0}
LinesFit (Of caller said ∷ lines) = (caller < MAX_CALLERS) × IsOfMemory said × LinesFit lines
LinesFit (Finish ∷ lines) = LinesFit lines

-- what follows a trace: a report of words of the machine, by ascending address and without zeros;
-- or the clock that was full
abbrev pub IsTail : List ℕ → Type 0
IsTail text = ((r : Report) × IsReadable r × (text ≡ report_bytes r)) ⊎ ((clock : ℕ) × IsWord clock × (text ≡ codes "clock full " ++ (decimal clock ++ codes "\n")))

-- THE LAW: what is read of the text has the boxes of these lines: one for each, in its caller's lane, at its place,
-- with its words
abbrev pub IsDrawnAs : List ℕ → List Line → Type 0
IsDrawnAs text lines = (told : List Line) × (trace_of text ≡ Ok told) × (line_boxes 1 (bare_of told) ≡ line_boxes 1 (bare_of lines))

-- and alone, below no workload, each of its lines may come
abbrev pub IsDrawnAlone : List ℕ → List Line → Type 0
IsDrawnAlone text lines = (told : List Line) × (trace_of text ≡ Ok told) × (line_boxes 1 (bare_of told) ≡ line_boxes 1 (bare_of lines)) × (told_steps None 0 told ≡ Ok (bare_of told))

abbrev pub TraceIsDrawn : Type 0
TraceIsDrawn = (lines : List Line) (tail : List ℕ) → LinesFit lines → LinesHaveWords lines → IsTail tail → length (trace_bytes lines ++ tail) ≤ MOST_DRAWN → IsDrawnAs (trace_bytes lines ++ tail) lines

-- a trace that fits a workload, whole with its report or up to a full clock
abbrev pub IsTraceOf : Workload → List Line → Type 0
IsTraceOf w lines = ((r : Report) × TraceFits w lines r) ⊎ ((clock : ℕ) × TraceFitsSoFar w lines clock)

abbrev pub StepIsDrawn : Type 0
StepIsDrawn = (w : Workload) (lines : List Line) (tail : List ℕ) → w.header.callers ≤ MAX_CALLERS → IsTraceOf w lines → LinesHaveWords lines → IsTail tail
    → length (trace_bytes lines ++ tail) ≤ MOST_DRAWN → IsDrawnAlone (trace_bytes lines ++ tail) lines
