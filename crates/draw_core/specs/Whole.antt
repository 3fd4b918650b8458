-- THE TEXT that is drawn: a trace alone, or a workload and then its trace.
use Rattle.std.specs.Prelude.{ℕ, ◌≡◌, ◌+◌, ◌-◌, ◌^◌, min, Bool, List, length, ltb, take, if◌then◌else◌, Option, Some, None, Result, Ok, Err, codes, bytes_eq}
use Rattle.work_script.specs.declared.workload.Workload.{Workload}
use Rattle.work_text.specs.declared.parse.Mode.TheVariants.{Step as Stepwise}
use Rattle.work_text.specs.Grammar.{workload_of}
use Rattle.work_text.specs.Parting.{to_done, after_done, lines_to_done}
use Rattle.work_trace.specs.declared.line.Line.{Line}
use Rattle.draw_core.specs.declared.reading.TheConstants.{MOST_DRAWN}
use Rattle.draw_pictures.specs.declared.step.Step.{Step}
use Rattle.draw_core.specs.declared.walk.StepsError.{StepsError}
use Rattle.draw_core.specs.declared.walk.StepsError.TheVariants.{Workload as InWorkload, Trace, Unfit, Memory}
use Rattle.draw_core.specs.Grammar.{trace_of}
use Rattle.draw_pictures.specs.declared.page.Page.{Page}
use Rattle.draw_pictures.specs.Parts.{IsSettled}
use Rattle.draw_pictures.specs.Rows.{rows_of}
use Rattle.draw_pictures.specs.Shapes.{line_boxes}
use Rattle.draw_core.specs.Walks.{told_steps}

-- a workload begins so, and no line of a trace does
abbrev pub has_workload : List ℕ → Bool
has_workload text = bytes_eq (take 3 text) (codes "stm")

-- the steps of a trace, below so many lines
abbrev pub follows : Option Workload → ℕ → Result (List Line) ℕ → Result (List Step) ℕ
follows w above (Ok lines) = told_steps w above lines
follows w above (Err line) = Err (min (above + line) (2 ^ 64 - 1))

-- a workload's fault comes before one of the trace
abbrev pub both : Result Workload (ℕ × ℕ) → ℕ → Result (List Line) ℕ → Result (List Step) ℕ
both (Ok w) above trace = follows (Some w) above trace
both (Err fault) above trace = Err fault.0

-- THE STEPS OF A TEXT: its trace's lines, with what the workload above it tells of them; or the first line at fault,
-- 0 for a text that is too long
abbrev pub steps_of : List ℕ → Result (List Step) ℕ
steps_of text =
    if ltb MOST_DRAWN (length text) then Err 0 else
    (if has_workload text then both (workload_of Stepwise (to_done text)) (lines_to_done text) (trace_of (after_done text)) else follows None 0 (trace_of text))

-- an error names the first line at fault; want of memory is free
abbrev pub IsStepsFault : StepsError → Result (List Step) ℕ → Type 0
IsStepsFault (InWorkload line fault) r = r ≡ Err line
IsStepsFault (Trace line) r = r ≡ Err line
IsStepsFault (Unfit unfit) r = r ≡ Err unfit.line
IsStepsFault Memory r = Unit {0}

-- the page of a text's steps
pub record IsPageFor (page : Page) (r : Result (List Step) ℕ) : Type 0 where
  pub steps : List Step
  pub are : r ≡ Ok steps
  pub settled : IsSettled page (rows_of (line_boxes 1 steps))
