-- A workload and a report, each a text of its own.
use Rattle.std.specs.Prelude.{ℕ, ◌≡◌, ◌+◌, ◌&&◌, Bool, List, [], ◌∷◌, length, drop, ltb, bytes_eq, codes, Option, Some, None, if◌then◌else◌}
use Rattle.work_text.specs.Lines.{Line, lines_of}
use Rattle.work_check.specs.declared.apart.TheConstants.{MOST_TOLD}
use Rattle.work_check.specs.declared.checking.Finding.{Finding}
use Rattle.work_check.specs.declared.wanted.Wanted.{Wanted}
use Rattle.work_check.specs.Checks.{pair_by, FindsOf, FindsWantedOf}

-- a report's first line
abbrev pub is_title : Line → Bool
is_title l = l.ended && bytes_eq l.bytes (codes "report 1")

-- the lines from the first such line on, and how many stand above it, after n
abbrev pub titled : ℕ → List Line → Option (ℕ × List Line)
titled n [] = None
titled n (l ∷ ls) = if is_title l then Some (n, l ∷ ls) else titled (n + 1) ls

-- where there is none, all lines
abbrev pub or_all : List Line → Option (ℕ × List Line) → ℕ × List Line
or_all ls None = (0, ls)
or_all ls (Some found) = found

-- THE REPORT in what a step wrote, or in a report alone: its lines, and how many stand above them.
-- A text that is too long has no lines above
abbrev pub report_lines : List ℕ → ℕ × List Line
report_lines told = if ltb MOST_TOLD (length told) then (0, lines_of told) else or_all (lines_of told) (titled 0 (lines_of told))

-- the rest of the text, below so many lines, is that report
pub record IsReportIn (told : List ℕ) (above : ℕ) (rest : List ℕ) : Type 0 where
  pub begins : ℕ
  pub cut : rest ≡ drop begins told
  pub is : (above, lines_of rest) ≡ report_lines told

-- what a check of both comes to; lines count in the text that is at fault
pub record FindsApart (text told : List ℕ) (finding : Finding) (wanted : Option Wanted) : Type 0 where
  pub above : ℕ
  pub rest : List ℕ
  pub report : IsReportIn told above rest
  pub finds : FindsOf (pair_by text above rest) above finding
  pub wants : FindsWantedOf (pair_by text above rest) finding wanted
