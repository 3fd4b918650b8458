-- The faults of a report's text.
use Rattle.std.proofs.Common.{ℕ, ◌≡◌, ◌≤◌, ◌+◌, ◌⊎◌, inl, inr, List, [], ◌∷◌, Bool, true, false, Result, Ok, Err, refl, subst, arith, length}
use Rattle.std.specs.Prelude.{Option, Some, None, if◌then◌else◌, ltb}
use Rattle.work_script.specs.declared.report.Report.{Report}
use Rattle.work_text.specs.declared.code.TheConstants.{UNENDED, LONG_REPORT}
use Rattle.work_text.specs.Lines.{Line, lines_of, words_of}
use Rattle.work_check.specs.declared.reading.TheConstants.{MAX_REPORT}
use Rattle.work_check.specs.Grammar.{Reading, opening, step_by, line_by, line_of, whole, finished, go_on, read, report_of}
use Rattle.work_check.specs.Limits.{IsReportFault, ReportFaultsAre}

abbrev Blames : Result Report (ℕ × ℕ) → Type 0
Blames (Ok r) = Unit {0}
Blames (Err fault) = IsReportFault fault.0 fault.1

abbrev IsLineFault : Result Reading ℕ → Type 0
IsLineFault (Ok d) = Unit {0}
IsLineFault (Err code) = (code ≡ 3) ⊎ (code ≡ 12)

line-if : (ended : Bool) (next : Option Reading) → IsLineFault (if ended then line_by next else Err UNENDED)
line-if true (Some d) = tt
line-if true None = inr refl
line-if false next = inl refl

finished-blames : (whole : Option Report) (k : ℕ) → 1 ≤ k → Blames (finished whole k)
finished-blames (Some r) k le = tt
finished-blames None k le = inr (le, inl refl)

go_on-blames : (r : Result Reading ℕ) (k : ℕ) (rest : Reading → Result Report (ℕ × ℕ)) → IsLineFault r → 1 ≤ k → ((d : Reading) → Blames (rest d)) → Blames (go_on r k rest)
go_on-blames (Ok d) k rest h le more = more d
go_on-blames (Err code) k rest h le more = inr (le, h)

read-blames : (d : Reading) (k : ℕ) (ls : List Line) → 1 ≤ k → Blames (read d k ls)
read-blames d k [] le = finished-blames (whole d) k le
read-blames d k (l ∷ ls) le =
    go_on-blames (line_of d l) k (λ e. read e (k + 1) ls) (line-if l.ended (step_by d.place d (words_of l.bytes))) le
    (λ e. let up : 1 ≤ k + 1 = omega arith in read-blames e (k + 1) ls up)

long-blames : (long : Bool) (r : Result Report (ℕ × ℕ)) → Blames r → Blames (if long then Err (0, LONG_REPORT) else r)
long-blames true r h = inl (refl, refl)
long-blames false r h = h

text-blames : (text : List ℕ) → Blames (report_of text)
text-blames text =
    let one : 1 ≤ 1 = omega arith in
    long-blames (ltb MAX_REPORT (length text)) (read opening 1 (lines_of text)) (read-blames opening 1 (lines_of text) one)

pub report-faults : ReportFaultsAre
report-faults text line code is = subst Blames is (text-blames text)
