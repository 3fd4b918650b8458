-- The text of a report, written and read back.
use Rattle.std.specs.Prelude.{ℕ, ◌≡◌, ◌<◌, ◌≤◌, List, [], ◌∷◌, ◌++◌, All, length, Result, Ok, MatchResult}
use Rattle.work_script.specs.declared.report.Report.{Report}
use Rattle.work_script.specs.declared.workload.Workload.{Workload}
use Rattle.work_script.specs.Reports.{Replays, regions_of}
use Rattle.work_script.specs.Workloads.{ItemsFit}
use Rattle.work_text.specs.declared.parse.Mode.{Mode}
use Rattle.work_text.specs.declared.parse.ParseError.{ParseError}
use Rattle.work_text.specs.declared.parse.ParseError.TheVariants.{Memory}
use Rattle.work_text.specs.Grammar.{workload_of}
use Rattle.work_text.specs.Reports.{ReportFits, report_bytes}
use Rattle.work_check.specs.declared.reading.TheConstants.{MAX_REPORT}
use Rattle.work_check.specs.Grammar.{report_of, Answers}
use Rattle.work_check.specs.Checks.{IsYes}
use Rattle.work_check.specs.Verdicts.{Judges}
use Rattle.work_check.specs.declared.verdict.Verdict.{Verdict}
use Rattle.work_check.specs.declared.verdict.Verdict.TheVariants.{Yes}

-- each address is above the one before it
abbrev pub IsAscending : List (ℕ × ℕ) → Type 0
IsAscending [] = Unit {0}
IsAscending (p ∷ []) = Unit {0}
IsAscending (p ∷ q ∷ ps) = (p.0 < q.0) × IsAscending (q ∷ ps)

-- a report whose text is read: words of the machine, and a memory by ascending address without zeros
pub record IsReadable (r : Report) : Type 0 where
  pub fits : ReportFits r
  pub ascending : IsAscending r.memory
  pub nonzero : All (λ (p : ℕ × ℕ). 0 < p.1) r.memory

-- the text of a report is read as that report
abbrev pub ReportIsRead : Type 0
ReportIsRead = (r : Report) → IsReadable r → length (report_bytes r) ≤ MAX_REPORT → report_of (report_bytes r) ≡ Ok r

-- a text that is read as a report is the text of that report
abbrev pub ReportIsWritten : Type 0
ReportIsWritten = (text : List ℕ) (r : Report) → report_of text ≡ Ok r → (text ≡ report_bytes r) × IsReadable r × (length text ≤ MAX_REPORT)

-- a report whose text is read as it, and that is found to replay the workload
pub record IsConfirmed (w : Workload) (r : Report) : Type 0 where
  -- the workload is one that a check takes
  pub taken : ItemsFit (regions_of w.header) w.header w.items
  pub readable : IsReadable r
  pub text : report_of (report_bytes r) ≡ Ok r
  -- reading the text gives the report, unless memory was refused
  pub read : (got : Result Report ParseError) → Answers got (report_of (report_bytes r)) → MatchResult got (λ s. s ≡ r) (λ e. e ≡ Memory)
  -- no verdict but Yes
  pub judged : (v : Verdict) → Judges w r v → v ≡ Yes

-- a report of words of the machine that replays a workload is readable
abbrev pub ReplayedIsReadable : Type 0
ReplayedIsReadable = (w : Workload) (r : Report) → Replays w r → ReportFits r → IsReadable r

-- a report of words of the machine that replays the workload of a text is read back and found to do so,
-- where its text isn't too long
abbrev pub ReplayedIsConfirmed : Type 0
ReplayedIsConfirmed = (m : Mode) (text : List ℕ) (w : Workload) (r : Report) → workload_of m text ≡ Ok w → Replays w r → ReportFits r → length (report_bytes r) ≤ MAX_REPORT → IsConfirmed w r

-- after the text of a workload, the text of a report of words of the machine that replays it is found to do so, where
-- it isn't too long
abbrev pub AfterIsConfirmed : Type 0
AfterIsConfirmed = (m : Mode) (text : List ℕ) (w : Workload) (r : Report) → workload_of m text ≡ Ok w → Replays w r → ReportFits r → length (report_bytes r) ≤ MAX_REPORT → IsYes (text ++ report_bytes r)
