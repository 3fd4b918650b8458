-- What each caller knows of its rows when all have ended.
use Rattle.std.specs.Prelude.{ℕ, ◌≡◌, ◌≤◌, List, [], ◌∷◌, ◌++◌, All, Contains, IsPermutation, length, map, sum_by}
use Rattle.stm_model.specs.Memories.{overlay, Explains}
use Rattle.stm_model.specs.Histories.{Entry, memory_at, Ascending, IsLegal}
use Rattle.stm_model.specs.HistoryLaws.{Within}
use Rattle.work_script.specs.declared.op.Op.{Op}
use Rattle.data_regions.specs.declared.region.Region.{Region}
use Rattle.work_script.specs.declared.report.Kind.{Kind}
use Rattle.work_script.specs.declared.report.Kind.TheVariants.{W, R, C}
use Rattle.work_script.specs.declared.report.Report.{Report}
use Rattle.work_script.specs.declared.report.Row.{Row}
use Rattle.work_script.specs.declared.workload.Workload.{Workload}
use Rattle.work_script.specs.Scripts.{run_row}
use Rattle.work_script.specs.Reports.{RowFits, Ordered, Replays, Shows, writers, counted, scripts_of, script_of, regions_of, zeros, nonzero}
use Rattle.work_script.specs.Workloads.{ItemsFit}

abbrev pub times : List Entry → List ℕ
times es = map (λ (e : Entry). e.time) es

-- the row is that of this entry: what its script does on every good memory that explains the entry's reads
pub record RowOf (good : List ℕ → Type 0) (words : ℕ) (regions : List Region) (script : List Op) (r : Row) (e : Entry) : Type 0 where
  pub time : e.time ≡ r.place
  pub fits : (m : List ℕ) → good m → length m ≡ words → Explains m e.reads → RowFits regions script r m
  pub left : (m : List ℕ) → good m → length m ≡ words → Explains m e.reads → (run_row regions r.kind script m).memory ≡ overlay m e.writes

abbrev pub by_kind : Kind → Type 0 → Type 0 → Type 0
by_kind W wrote other = wrote
by_kind R wrote other = other
by_kind C wrote other = other

-- a W row is that of an entry of its caller; another is what its script does on the memory at its place,
-- which the caller has seen
abbrev pub RowIn : (List ℕ → Type 0) → List ℕ → List Region → (Row → List Op) → List Entry → List Entry → ℕ → Row → Type 0
RowIn good opening regions script made seen front r =
    by_kind r.kind
    ((e : Entry) × Contains made e × RowOf good (length opening) regions (script r) r e)
    ((r.place ≤ front) × RowFits regions (script r) r (memory_at r.place seen opening))

-- a caller's rows, in the order of the text: the W rows are its entries in order, and each row is what its script does,
-- at a place that it has seen
pub record Worked (good : List ℕ → Type 0) (opening : List ℕ) (regions : List Region) (script : Row → List Op) (caller : ℕ) (made seen : List Entry) (front : ℕ) (rows : List Row) : Type 0 where
  pub writers : writers rows ≡ times made
  pub each : All (RowIn good opening regions script made seen front) rows
  pub mine : All (λ (r : Row). r.caller ≡ caller) rows
  pub numbered : map (λ (r : Row). r.seq) rows ≡ counted 0 (length rows)
  pub ordered : Ordered rows
  pub places : All (λ (r : Row). r.place ≤ front) rows

-- the history begins with what was seen up to the front, and goes on after it
abbrev pub BeginsWith : List Entry → List Entry → ℕ → Type 0
BeginsWith es seen front = (later : List Entry) × (es ≡ seen ++ later) × Ascending front later

-- what one caller ends with
pub record Part : Type 0 where
  pub caller : ℕ
  pub made : List Entry
  pub seen : List Entry
  pub front : ℕ
  pub rows : List Row

abbrev pub all_rows : List Part → List Row
all_rows [] = []
all_rows (p ∷ ps) = p.rows ++ all_rows ps

-- the history has the entries of the callers, each once: whatever is counted,
-- there is as much in it as in theirs together
abbrev pub Gathers : List Entry → List Part → Type 0
Gathers es parts = (h : Entry → ℕ) → sum_by h es ≡ sum_by (λ (p : Part). sum_by h p.made) parts

-- a caller's part of the history
pub record PartIn (good : List ℕ → Type 0) (w : Workload) (es : List Entry) (p : Part) : Type 0 where
  pub worked : Worked good (zeros w.header.words) (regions_of w.header) (script_of w.items) p.caller p.made p.seen p.front p.rows
  pub begins : BeginsWith es p.seen p.front
  pub within : (e : Entry) → Contains p.made e → Contains es e
  pub owned : All (λ (e : Entry). e.caller ≡ p.caller) p.made
  -- it has a row for each of its transactions
  pub whole : length p.rows ≡ length (scripts_of p.caller w.items)

-- what the callers of a workload end with, gathered into one history, one memory and one report
pub record IsGathered (good : List ℕ → Type 0) (w : Workload) (es : List Entry) (clock : ℕ) (parts : List Part) (report : Report) : Type 0 where
  pub items : ItemsFit (regions_of w.header) w.header w.items
  pub legal : IsLegal good (zeros w.header.words) w.header.clock es
  pub times : Within clock es
  pub callers : map (λ (p : Part). p.caller) parts ≡ counted 0 w.header.callers
  pub each : All (PartIn good w es) parts
  pub gathers : Gathers es parts
  pub moved : IsPermutation (all_rows parts) report.rows
  pub ordered : Ordered report.rows
  pub memory : report.memory ≡ nonzero 0 (memory_at clock es (zeros w.header.words))

-- THE REPLAY THEOREM: what the callers did together is what one thread does alone, and the report shows the history
abbrev pub ReportReplays : (List ℕ → Type 0) → Type 0
ReportReplays good = (w : Workload) (es : List Entry) (clock : ℕ) (parts : List Part) (report : Report)
    → IsGathered good w es clock parts report → Replays w report × Shows es w.header.clock clock w report
