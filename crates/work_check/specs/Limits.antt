-- The numbers of reports, and the faults of their texts.
use Rattle.std.specs.Prelude.{ℕ, ◌≡◌, ◌≤◌, ◌⊎◌, List, Err}
use Rattle.work_check.specs.declared.checking.TheConstants.{MOST_CHECKED}
use Rattle.work_check.specs.declared.reading.TheConstants.{MAX_REPORT}
use Rattle.work_check.specs.Grammar.{report_of}

pub record LimitsAre : Type 0 where
  -- the greatest number of bytes of a report, and of a text that is checked
  pub report : MAX_REPORT ≡ 134217728
  pub checked : MOST_CHECKED ≡ 150994945

-- the whole is too long; or a line is unended, or isn't in the form
abbrev pub IsReportFault : ℕ → ℕ → Type 0
IsReportFault line code = ((line ≡ 0) × (code ≡ 13)) ⊎ ((1 ≤ line) × ((code ≡ 3) ⊎ (code ≡ 12)))

-- a report's text has no other fault: also a wrong byte is told by code 12, or by 3 where no LF ends its line
abbrev pub ReportFaultsAre : Type 0
ReportFaultsAre = (text : List ℕ) (line code : ℕ) → report_of text ≡ Err (line, code) → IsReportFault line code
