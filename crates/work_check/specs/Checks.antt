-- A workload and a report in one text, and what a check of it comes to.
use Rattle.std.specs.Prelude.{ℕ, zero, suc, ◌≡◌, ◌+◌, List, Option, None, MatchOption, Result, Ok, Err}
use Rattle.work_script.specs.declared.report.Report.{Report}
use Rattle.work_script.specs.declared.workload.Workload.{Workload}
use Rattle.work_text.specs.declared.parse.Mode.TheVariants.{Step as Stepwise}
use Rattle.work_text.specs.Grammar.{workload_of}
use Rattle.work_text.specs.Parting.{to_done, after_done, lines_to_done}
use Rattle.work_check.specs.Grammar.{report_of}
use Rattle.work_check.specs.Verdicts.{Judges}
use Rattle.work_check.specs.declared.checking.Finding.{Finding}
use Rattle.work_check.specs.declared.checking.Finding.TheVariants as findings
use Rattle.work_check.specs.declared.checking.Part.{Part}
use Rattle.work_check.specs.declared.checking.Part.TheVariants as parts
use Rattle.work_check.specs.Wanted.{IsWanted}
use Rattle.work_check.specs.declared.wanted.Wanted.{Wanted}
use Rattle.work_check.specs.declared.verdict.Verdict.TheVariants.{Yes, No}

-- a line of the report, as one of a text with so many lines above it; line 0 stands for the whole report
abbrev pub shifted : ℕ → ℕ → ℕ
shifted above zero = 0
shifted above (suc n) = above + suc n

abbrev pub with_report : ℕ → Workload → Result Report (ℕ × ℕ) → Result (Workload × Report) (ℕ × ℕ)
with_report above w (Ok r) = Ok (w, r)
with_report above w (Err fault) = Err (shifted above fault.0, fault.1)

-- a workload's fault comes before a report's
abbrev pub with_workload : Result Workload (ℕ × ℕ) → ℕ → List ℕ → Result (Workload × Report) (ℕ × ℕ)
with_workload (Ok w) above rest = with_report above w (report_of rest)
with_workload (Err fault) above rest = Err fault

-- a workload's text and a report's, which has so many lines above it: both, or the line and the code of the first fault
abbrev pub pair_by : List ℕ → ℕ → List ℕ → Result (Workload × Report) (ℕ × ℕ)
pair_by head above rest = with_workload (workload_of Stepwise head) above rest

-- THE TWO TEXTS: the workload up to and with the first line `done`, and the report after it
abbrev pub pair_of : List ℕ → Result (Workload × Report) (ℕ × ℕ)
pair_of text = pair_by (to_done text) (lines_to_done text) (after_done text)

module _ (pair : Result (Workload × Report) (ℕ × ℕ)) where
  -- they are a workload's and a report's that replays it
  pub record IsYesOf : Type 0 where
    pub workload : Workload
    pub report : Report
    pub reads : pair ≡ Ok (workload, report)
    pub judged : Judges workload report Yes

  -- they are a workload's and a report's that doesn't replay it; the line is the first at fault
  pub record IsNoOf (above line : ℕ) : Type 0 where
    pub workload : Workload
    pub report : Report
    pub reads : pair ≡ Ok (workload, report)
    pub at : ℕ
    pub judged : Judges workload report (No at)
    pub shift : line ≡ above + at

  -- what a check of them comes to
  abbrev pub FindsOf : ℕ → Finding → Type 0
  FindsOf above findings.Yes = IsYesOf
  FindsOf above (findings.No line) = IsNoOf above line
  FindsOf above (findings.Faulty line code) = pair ≡ Err (line, code)

  -- they are a workload's and a report's, and this is wanted on the report's first line at fault
  pub record IsWantedOf (wanted : Wanted) : Type 0 where
    pub workload : Workload
    pub report : Report
    pub reads : pair ≡ Ok (workload, report)
    pub wants : IsWanted workload report wanted

  -- something is wanted exactly where the report doesn't replay the workload
  abbrev pub FindsWantedOf : Finding → Option Wanted → Type 0
  FindsWantedOf findings.Yes wanted = wanted ≡ None
  FindsWantedOf (findings.No line) wanted = MatchOption wanted ⊥ IsWantedOf
  FindsWantedOf (findings.Faulty line code) wanted = wanted ≡ None

-- the same of one text
abbrev pub IsYes : List ℕ → Type 0
IsYes text = IsYesOf (pair_of text)

abbrev pub IsNo : List ℕ → ℕ → Type 0
IsNo text line = IsNoOf (pair_of text) (lines_to_done text) line

abbrev pub IsFaulty : List ℕ → ℕ → ℕ → Type 0
IsFaulty text line code = pair_of text ≡ Err (line, code)

abbrev pub Finds : List ℕ → Finding → Type 0
Finds text finding = FindsOf (pair_of text) (lines_to_done text) finding

abbrev pub FindsWanted : List ℕ → Finding → Option Wanted → Type 0
FindsWanted text finding wanted = FindsWantedOf (pair_of text) finding wanted

-- a finding is of the workload's text where that has a fault, and else of the report's
abbrev pub IsPart : Result Workload (ℕ × ℕ) → Part → Type 0
IsPart (Ok w) part = part ≡ parts.Report
IsPart (Err fault) part = part ≡ parts.Workload

-- a text has one finding: where one is right no other is
abbrev pub OneFindingPerText : Type 0
OneFindingPerText = (text : List ℕ) (a b : Finding) → Finds text a → Finds text b → a ≡ b
