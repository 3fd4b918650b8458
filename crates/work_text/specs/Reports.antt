-- The report text.
use Rattle.std.specs.Prelude.{ℕ, ◌≡◌, ◌<◌, ◌^◌, List, [], ◌∷◌, ◌++◌, All, codes}
use Rattle.std.specs.Fmt.{decimal}
use Rattle.work_script.specs.declared.report.Kind.{Kind}
use Rattle.work_script.specs.declared.report.Kind.TheVariants.{W, R, C}
use Rattle.work_script.specs.declared.report.Row.{Row}
use Rattle.work_script.specs.declared.report.Report.{Report}

-- numbers, each with a space before it
abbrev pub spaced : List ℕ → List ℕ
spaced [] = []
spaced (n ∷ ns) = 32 ∷ decimal n ++ spaced ns

-- the emits, where there are any
abbrev pub emitted : List ℕ → List ℕ
emitted [] = []
emitted (e ∷ es) = codes " !" ++ spaced (e ∷ es)

abbrev pub letter_of : Kind → List ℕ
letter_of W = codes "W"
letter_of R = codes "R"
letter_of C = codes "C"

-- `K place caller seq : r1 r2 ..`, and the emits
abbrev pub row_line : Row → List ℕ
row_line r = letter_of r.kind ++ (spaced (r.place ∷ r.caller ∷ r.seq ∷ []) ++ (codes " :" ++ (spaced r.replies ++ (emitted r.emits ++ 10 ∷ []))))

abbrev pub row_lines : List Row → List ℕ
row_lines [] = []
row_lines (r ∷ rs) = row_line r ++ row_lines rs

-- `mem a v`
abbrev pub memory_line : ℕ × ℕ → List ℕ
memory_line p = codes "mem" ++ (spaced (p.0 ∷ p.1 ∷ []) ++ 10 ∷ [])

abbrev pub memory_lines : List (ℕ × ℕ) → List ℕ
memory_lines [] = []
memory_lines (p ∷ ps) = memory_line p ++ memory_lines ps

abbrev pub report_bytes : Report → List ℕ
report_bytes r = codes "report 1\n" ++ (row_lines r.rows ++ (memory_lines r.memory ++ codes "end\n"))

-- a number of 64 bits
abbrev pub IsWord : ℕ → Type 0
IsWord n = n < 2 ^ 64

-- a row's numbers are words
pub record RowFits (r : Row) : Type 0 where
  pub place : IsWord r.place
  pub caller : IsWord r.caller
  pub seq : IsWord r.seq
  pub replies : All IsWord r.replies
  pub emits : All IsWord r.emits

-- an address and a value are words
abbrev pub PairFits : ℕ × ℕ → Type 0
PairFits p = IsWord p.0 × IsWord p.1

-- a report's numbers are words, as they are in each report that has its text
pub record ReportFits (r : Report) : Type 0 where
  pub rows : All RowFits r.rows
  pub memory : All PairFits r.memory

-- one report per text
abbrev pub OneReportPerText : Type 0
OneReportPerText = (r s : Report) → ReportFits r → ReportFits s → report_bytes r ≡ report_bytes s → r ≡ s
