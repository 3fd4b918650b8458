-- A TRACE ALONG ITS WORKLOAD: a line of an operation tells of the one that comes next in its caller's script.
use Rattle.std.specs.Prelude.{ℕ, zero, suc, ◌≡◌, ◌≤◌, ◌+◌, List, [], ◌∷◌, ◌++◌, drop, length, ltb, if◌then◌else◌, Option, Some, None, Result, Ok, Err, slice_index_or, slice_set, option_map}
use Rattle.work_script.specs.declared.op.Op.{Op}
use Rattle.work_script.specs.declared.workload.Item.{Item}
use Rattle.work_script.specs.declared.workload.Version.{Version}
use Rattle.work_script.specs.declared.workload.Workload.{Workload}
use Rattle.work_script.specs.Reports.{scripts_of}
use Rattle.work_trace.specs.declared.line.Line.{Line}
use Rattle.work_trace.specs.declared.line.Line.TheVariants.{Of, Finish}
use Rattle.work_trace.specs.declared.said.Said.{Said}
use Rattle.draw_core.specs.declared.cursor.Cursor.{Cursor}
use Rattle.draw_core.specs.declared.misfit.Unfit.{Unfit}
use Rattle.draw_pictures.specs.declared.step.Deed.{Deed}
use Rattle.draw_pictures.specs.declared.step.Step.{Step}
use Rattle.draw_core.specs.declared.walk.Walk.{Walk}
use Rattle.draw_pictures.specs.Parts.{IsPageOf}
use Rattle.work_trace.specs.declared.said.Phase.{Phase}
use Rattle.draw_core.specs.Phases.{first_phases, passed}
use Rattle.draw_pictures.specs.Shapes.{line_boxes}
use Rattle.draw_pictures.specs.Steps.{bare}
use Rattle.draw_core.specs.Turns.{Stand, turn_of, after, told_by}

-- where each caller stands at first: all its transactions are still to do
abbrev pub first_from : List Item → ℕ → ℕ → List Stand
first_from items n zero = []
first_from items n (suc callers) = record { scripts = scripts_of n items; attempt = None } ∷ first_from items (n + 1) callers

abbrev pub first_stands : List Item → ℕ → List Stand
first_stands items callers = first_from items 0 callers

abbrev pub stand_at : List Stand → ℕ → Stand
stand_at stands n = slice_index_or stands n (record { scripts = []; attempt = None })

abbrev pub deed_of : Version → Option Op → Option Deed
deed_of version None = None
deed_of version (Some op) = Some (record { op = op; version = version })

abbrev pub turned : Version → List Stand → ℕ → Said → Option Stand → Option (Step × List Stand)
turned version stands n said None = None
turned version stands n said (Some at) = Some (record { line = Of n said; deed = deed_of version (told_by (stand_at stands n) (turn_of said)) }, slice_set stands n at)

-- the line with what it tells of, and where the callers stand after it; none where it may not come
abbrev pub goes : Version → List Stand → Line → Option (Step × List Stand)
goes version stands (Of n said) = if ltb n (length stands) then turned version stands n said (after (stand_at stands n) (turn_of said)) else None
goes version stands Finish = Some (bare Finish, stands)

-- where the callers stand: by their scripts, and by their lines alone
pub record Along : Type 0 where
  pub stands : List Stand
  pub phases : List Phase

-- a line of a trace alone tells what it says
abbrev pub stepped : Option Version → List Stand → Line → Option (Step × List Stand)
stepped None stands line = Some (bare line, stands)
stepped (Some version) stands line = goes version stands line

abbrev pub with_phases : Option (Step × List Stand) → Option (List Phase) → Option (Step × Along)
with_phases (Some went) (Some phases) = Some (went.0, record { stands = went.1; phases = phases })
with_phases went phases = None

abbrev pub went : Option Version → Along → Line → Option (Step × Along)
went version at line = with_phases (stepped version at.stands line) (passed at.phases line)

abbrev pub go_on : Option (Step × Along) → ℕ → (Step × Along → Result (List Step) ℕ) → Result (List Step) ℕ
go_on None k rest = Err k
go_on (Some went) k rest = rest went

-- the steps told so far and those of these lines, the first of which is the text's line k;
-- or the first line that may not come
abbrev pub walked : Option Version → List Step → ℕ → Along → List Line → Result (List Step) ℕ
walked version told k at [] = Ok told
walked version told k at (line ∷ lines) = go_on (went version at line) k (λ w. walked version (told ++ w.0 ∷ []) (k + 1) w.1 lines)

abbrev pub version_in : Option Workload → Option Version
version_in None = None
version_in (Some w) = Some w.header.version

abbrev pub first_in : Option Workload → List Stand
first_in None = []
first_in (Some w) = first_stands w.items w.header.callers

-- THE STEPS of a trace, along its workload where one stands above it, below so many lines
abbrev pub told_steps : Option Workload → ℕ → List Line → Result (List Step) ℕ
told_steps w above lines = walked (version_in w) [] (above + 1) (record { stands = first_in w; phases = first_phases }) lines

-- what a cursor says of its caller
abbrev pub first_of : List (List Op) → List Op
first_of [] = []
first_of (script ∷ scripts) = script

abbrev pub opened : List (List Op) → Option ℕ → Option (List Op)
opened scripts None = None
opened scripts (Some done) = Some (drop done (first_of scripts))

abbrev pub stand_of : List Item → ℕ → Cursor → Stand
stand_of items n c = record { scripts = scripts_of n (drop c.item items); attempt = opened (scripts_of n (drop c.item items)) c.done }

abbrev pub stands_of : List Item → ℕ → List Cursor → List Stand
stands_of items n [] = []
stands_of items n (c ∷ cs) = stand_of items n c ∷ stands_of items (n + 1) cs

abbrev pub AreWithin : List Item → List Cursor → Type 0
AreWithin items [] = Unit {0}
AreWithin items (c ∷ cs) = (c.item ≤ length items) × AreWithin items cs

-- where the callers of a workload stand, by these cursors
abbrev pub stands_in : Option Workload → List Cursor → List Stand
stands_in None cursors = []
stands_in (Some w) cursors = stands_of w.items 0 cursors

abbrev pub callers_in : Option Workload → ℕ
callers_in None = 0
callers_in (Some w) = w.header.callers

abbrev pub AreWithinOf : Option Workload → List Cursor → Type 0
AreWithinOf None cursors = Unit {0}
AreWithinOf (Some w) cursors = AreWithin w.items cursors

-- where the callers stand, by these cursors and phases
abbrev pub along_of : Option Workload → List Cursor → List Phase → Along
along_of w cursors phases = record { stands = stands_in w cursors; phases = phases }

-- the step of a line, and where the callers stand after it
abbrev pub next_step : Option Workload → List Cursor → List Phase → Line → Option (Step × Along)
next_step w cursors phases line = went (version_in w) (along_of w cursors phases) line

-- the steps so far and those of these lines
abbrev pub goes_along : Option Workload → List Step → ℕ → List Cursor → List Phase → List Line → Result (List Step) ℕ
goes_along w told k cursors phases lines = walked (version_in w) told k (along_of w cursors phases) lines

abbrev pub workload_in : Walk → Option Workload
workload_in walk = option_map (λ w. w.now) walk.workload

-- the walk has seen these lines, which have steps, whatever follows
pub record HasWalked (walk : Walk) (lines : List Line) : Type 0 where
  pub steps : List Step
  pub along : (more : List Line) → told_steps (workload_in walk) walk.above (lines ++ more) ≡ goes_along (workload_in walk) steps (walk.above + length steps + 1) walk.cursors.items walk.phases.items more
  pub within : AreWithinOf (workload_in walk) walk.cursors.items
  pub page : IsPageOf walk.page (line_boxes 1 steps)

-- it has seen them, or one of them that may not come where its caller stands
abbrev pub IsWalkBy : Option Unfit → Walk → List Line → Type 0
IsWalkBy None walk lines = HasWalked walk lines
IsWalkBy (Some u) walk lines = (more : List Line) → told_steps (workload_in walk) walk.above (lines ++ more) ≡ Err u.line

abbrev pub IsWalk : Walk → List Line → Type 0
IsWalk walk lines = IsWalkBy walk.misfit walk lines

-- the walk has gone over the lines that a text has
pub record HasRead (walk : Walk) (r : Result (List Line) ℕ) : Type 0 where
  pub told : List Line
  pub are : r ≡ Ok told
  pub is : IsWalk walk told
