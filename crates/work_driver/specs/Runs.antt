-- What a run comes to.
use Rattle.std.specs.Prelude.{ℕ, suc, ◌≡◌, ◌<◌, ◌≤◌, ◌+◌, ◌*◌, ◌^◌, ◌⊎◌, ◌==◌, Bool, true, false, if◌then◌else◌, List, [], ◌∷◌, ◌++◌, length, map}
use Rattle.stm_model.specs.declared.alg.Alg.{Alg}
use Rattle.stm_model.specs.Histories.{IsLegal}
use Rattle.work_profile.specs.declared.policy.Policy.{Policy}
use Rattle.stm_model.specs.HistoryLaws.{Within}
use Rattle.work_script.specs.declared.report.Report.{Report}
use Rattle.work_script.specs.declared.report.Row.{Row}
use Rattle.work_script.specs.declared.workload.Workload.{Workload}
use Rattle.work_script.specs.Reports.{Replays, Shows, regions_of, rows_of, script_of, zeros}
use Rattle.data_regions.specs.Regions.{AllWellFormed}
use Rattle.work_trace.specs.declared.line.Line.{Line}
use Rattle.work_trace.specs.Fits.{TraceFits, TraceFitsSoFar}
use Rattle.work_trace.specs.Places.{items_of}
use Rattle.work_script.specs.declared.workload.Item.{Item}
use Rattle.work_worker.specs.Installs.{InstallsBy}
use Rattle.work_worker.specs.Leavings.{IsPart}
use Rattle.stm_rule.specs.Closings.{Ended}
use Rattle.work_trace.specs.Adapting.{policy_for}
use Rattle.work_driver.specs.Along.{GoesAlong}
use Rattle.work_driver.specs.Openings.{first_installs}
use Rattle.work_driver.specs.declared.outcome.RunOutcome.{RunOutcome}
use Rattle.work_driver.specs.declared.outcome.RunOutcome.TheVariants.{ToEnd, ToLimit, OutOfMemory}

-- what caller n installed, caller 0 after the header's algorithm: the switches of its items, and after its transactions
-- those that its policy asked for, by what its rows say and the attempts before them.
-- cut: whether a schedule may have ended with an attempt open
pub record HasInstalled (cut whole : Bool) (policy : Policy) (w : Workload) (rows : List Row) (n : ℕ) (installs : List Alg) : Type 0 where
  pub more : List Alg
  pub first : installs ≡ first_installs w.header.alg n ++ more
  -- the switch that was asked for last may be left, but not where nothing is
  pub done : Bool
  pub all : whole ≡ true → done ≡ true
  pub by : InstallsBy cut w.header.callers done (policy_for policy n) w.header.alg (items_of n w.items) (map (λ (r : Row). r.kind) (rows_of n rows)) more

-- these are the installs of the callers from n on
abbrev pub AreInstalls : Bool → Bool → Policy → Workload → List Row → ℕ → List (List Alg) → Type 0
AreInstalls cut whole policy w rows n [] = Unit {0}
AreInstalls cut whole policy w rows n (installs ∷ others) = HasInstalled cut whole policy w rows n installs × AreInstalls cut whole policy w rows (suc n) others

-- the history of the memory that was closed is legal, over zeros from the header's clock on, with each structure well
-- formed at every moment, and has no entry after the last clock
pub record IsHistory (w : Workload) (closed : Ended) : Type 0 where
  pub legal : IsLegal (AllWellFormed (regions_of w.header)) (zeros w.header.words) w.header.clock closed.history
  pub times : Within closed.clock closed.history

-- the report replays the workload, and shows the one history of the memory that was closed, which is legal; each
-- caller's installs are those of the text, and what its policy asked for, all of them where nothing is left
pub record IsShownBy (cut whole : Bool) (policy : Policy) (w : Workload) (report : Report) (closed : Ended) : Type 0 where
  pub replays : Replays w report
  pub shows : Shows closed.history closed.opening closed.clock w report
  pub history : IsHistory w closed
  pub callers : length closed.installs ≡ w.header.callers
  -- each row is replayed over the memories of the history at its place
  pub along : GoesAlong (regions_of w.header) (script_of w.items) closed.history (zeros w.header.words) (zeros w.header.words) report.rows
  pub installs : AreInstalls cut whole policy w report.rows 0 closed.installs

abbrev pub IsShown : Bool → Policy → Workload → Report → Ended → Type 0
IsShown cut policy w report closed = IsShownBy cut true policy w report closed

-- the first of all items
abbrev pub AreFirst : List Item → List Item → Type 0
AreFirst all some = (left : List Item) × (all ≡ some ++ left)

-- the first of all items, and maybe the first operations of the transaction that comes next: those of an attempt that
-- couldn't be cancelled any more
abbrev pub ArePart : List Item → List Item → Type 0
ArePart all some = (left : List Item) × IsPart all left some

-- the memory that was closed is that of a run of some of each caller's items to their end: there is a report that
-- replays these and shows its history, and its installs are theirs
pub record RanSome (cut : Bool) (some : List Item → List Item → Type 0) (policy : Policy) (w : Workload) (closed : Ended) : Type 0 where
  pub part : Workload
  pub header : part.header ≡ w.header
  pub each : (n : ℕ) → n < w.header.callers → some (items_of n w.items) (items_of n part.items)
  pub report : Report
  pub shown : IsShownBy cut false policy part report closed

-- by how much an item raises the clock at most, with the attempts of it that failed:
-- with one caller none is in the way of another
abbrev pub most_rises : ℕ → ℕ
most_rises callers = if callers == 1 then 4 else 20

-- a transaction was still to do, and found the clock at its limit, which is that of the memory that was closed; the
-- first install and the items can have brought it there
pub record IsFull (policy : Policy) (w : Workload) (clock : ℕ) (closed : Ended) : Type 0 where
  pub opening : closed.opening ≡ w.header.clock
  pub found : closed.clock ≡ clock
  pub limit : clock ≡ 2 ^ 62
  pub history : IsHistory w closed
  pub ran : RanSome false AreFirst policy w closed
  pub left : length closed.history < length w.items
  pub bound : 2 ^ 62 ≤ w.header.clock + most_rises w.header.callers * length w.items + 1

-- the trace fits the workload and its report, which shows the one history of the memory that was closed
pub record IsTraced (w : Workload) (lines : List Line) (report : Report) (closed : Ended) : Type 0 where
  pub fits : TraceFits w lines report
  pub shown : IsShown true w.header.policy w report closed

-- the trace fits the workload up to a clock that was found at its limit, which is that of the memory that was closed;
-- so many lines can have brought it there
pub record IsCut (w : Workload) (lines : List Line) (clock : ℕ) (closed : Ended) : Type 0 where
  pub fits : TraceFitsSoFar w lines clock
  pub opening : closed.opening ≡ w.header.clock
  pub found : closed.clock ≡ clock
  pub limit : clock ≡ 2 ^ 62
  pub history : IsHistory w closed
  pub ran : RanSome true ArePart w.header.policy w closed
  pub bound : 2 ^ 62 ≤ w.header.clock + 2 * length lines + 1

-- the memory was closed, with nothing open
pub record IsStopped (cut : Bool) (some : List Item → List Item → Type 0) (policy : Policy) (w : Workload) (closed : Ended) : Type 0 where
  pub opening : closed.opening ≡ w.header.clock
  pub history : IsHistory w closed
  pub ran : RanSome cut some policy w closed

-- where memory was refused, for longer logs or for the report,
-- the memory is that of a run of some of each caller's items to their end
abbrev pub HasRun : Policy → Workload → RunOutcome → Type 0
HasRun policy w (ToEnd report closed) = IsShown false policy w report closed
HasRun policy w (ToLimit clock closed) = IsFull policy w clock closed
HasRun policy w (OutOfMemory closed) = ((report : Report) × IsShown false policy w report closed) ⊎ IsStopped false AreFirst policy w closed

abbrev pub HasStepped : Workload → List Line → RunOutcome → Type 0
HasStepped w lines (ToEnd report closed) = IsTraced w lines report closed
HasStepped w lines (ToLimit clock closed) = IsCut w lines clock closed
HasStepped w lines (OutOfMemory closed) = IsStopped true ArePart w.header.policy w closed
