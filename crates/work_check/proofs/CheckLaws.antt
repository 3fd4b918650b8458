-- How far down a fault may be.
use Rattle.std.proofs.Common.{ℕ, zero, suc, ◌≡◌, ◌<◌, ◌≤◌, ◌+◌, List, [], ◌∷◌, ◌++◌, Bool, true, false, Ok, Err, ap, arith, length, length-append, inl, inr}
use Rattle.std.specs.Prelude.{◌==◌, ◌&&◌, if◌then◌else◌, ltb, Option, Some, None, Result, codes}
use Rattle.work_script.specs.declared.report.Kind.{Kind}
use Rattle.work_script.specs.declared.report.Kind.TheVariants.{W, R, C}
use Rattle.work_script.specs.declared.report.Report.{Report}
use Rattle.work_script.specs.declared.report.Row.{Row}
use Rattle.work_script.specs.declared.workload.Workload.{Workload}
use Rattle.work_script.specs.Reports.{nonzero}
use Rattle.work_text.specs.Lines.{Line, lines_of, with_byte}
use Rattle.work_text.specs.Reports.{letter_of, row_line, row_lines, memory_line, memory_lines, report_bytes}
use Rattle.work_check.specs.declared.reading.TheConstants.{MAX_REPORT}
use Rattle.work_check.specs.Grammar.{Reading, opening, whole, finished, line_of, go_on, read, report_of}
use Rattle.work_check.specs.Verdicts.{IsWrongAt, EndsWrong, IsFirstFault, alike, memory_after}

abbrev fault_line : Result Report (ℕ × ℕ) → ℕ
fault_line (Ok r) = 0
fault_line (Err f) = f.0

finished-line : (o : Option Report) (k : ℕ) → fault_line (finished o k) ≤ k
finished-line (Some r) k = omega arith
finished-line None k = omega arith

read-line : (d : Reading) (k : ℕ) (ls : List Line) → fault_line (read d k ls) ≤ k + length ls
read-line d k [] = let a = finished-line (whole d) k in omega arith
read-line d k (l ∷ ls) = by (line_of d l) (λ e. read-line e (k + 1) ls)
  where
    by : (r : Result Reading ℕ) → ((e : Reading) → fault_line (read e (k + 1) ls) ≤ k + 1 + length ls) → fault_line (go_on r k (λ e. read e (k + 1) ls)) ≤ k + suc (length ls)
    by (Ok e) next = let a = next e in omega arith
    by (Err code) next = omega arith

with-one : (b : ℕ) (ls : List Line) → length (with_byte b ls) ≤ suc (length ls)
with-one b [] = omega arith
with-one b (l ∷ ls) = omega arith

pub lines-count : (t : List ℕ) → length (lines_of t) ≤ length t
lines-count [] = omega arith
lines-count (b ∷ bs) = by (b == 10) (lines-count bs) (with-one b (lines_of bs))
  where
    by : (lf : Bool) → length (lines_of bs) ≤ length bs → length (with_byte b (lines_of bs)) ≤ suc (length (lines_of bs))
        → length (if lf then record { bytes = []; ended = true } ∷ lines_of bs else with_byte b (lines_of bs)) ≤ suc (length bs)
    by true h w = omega arith
    by false h w = omega arith

-- the line of a report's fault is at most one after its bytes
pub report-line : (t : List ℕ) (line code : ℕ) → report_of t ≡ Err (line, code) → line ≤ 1 + length t
report-line t line code is =
    let e : fault_line (report_of t) ≡ line = ap fault_line is in
    let a = by (ltb MAX_REPORT (length t)) (read-line opening 1 (lines_of t)) in
    let b = lines-count t in
    omega arith
  where
    by : (b : Bool) → fault_line (read opening 1 (lines_of t)) ≤ 1 + length (lines_of t) → fault_line (if b then Err (0, 13) else read opening 1 (lines_of t)) ≤ 1 + length (lines_of t)
    by true h = omega arith
    by false h = h

wrong-at : (w : Workload) (above : List Row) (m : List ℕ) (rs : List Row) (n : ℕ) → IsWrongAt w above m rs n → n < length rs
wrong-at w above m [] n h = absurd h
wrong-at w above m (r ∷ rs) zero h = omega arith
wrong-at w above m (r ∷ rs) (suc n) h = let a = wrong-at w (above ++ r ∷ []) (memory_after w m r) rs n h.1 in omega arith

alike-most : (ps qs : List (ℕ × ℕ)) → alike ps qs ≤ length ps
alike-most [] qs = omega arith
alike-most (p ∷ ps) [] = omega arith
alike-most (p ∷ ps) (q ∷ qs) = by ((p.0 == q.0) && (p.1 == q.1)) (alike-most ps qs)
  where
    by : (b : Bool) → alike ps qs ≤ length ps → (if b then suc (alike ps qs) else 0) ≤ suc (length ps)
    by true h = omega arith
    by false h = omega arith

letter-some : (k : Kind) (t : List ℕ) → 1 ≤ length (letter_of k ++ t)
letter-some W t = omega arith
letter-some R t = omega arith
letter-some C t = omega arith

row-some : (r : Row) → 1 ≤ length (row_line r)
row-some r = letter-some r.kind _

rows-least : (rs : List Row) → length rs ≤ length (row_lines rs)
rows-least [] = omega arith
rows-least (r ∷ rs) =
    let a = length-append (row_line r) (row_lines rs) in
    let b = rows-least rs in
    let c = row-some r in
    omega arith

memory-least : (ps : List (ℕ × ℕ)) → length ps ≤ length (memory_lines ps)
memory-least [] = omega arith
memory-least (p ∷ ps) =
    let a = length-append (memory_line p) (memory_lines ps) in
    let b = memory-least ps in
    omega arith

-- the line of a report at fault is at most one after its bytes
pub judged-line : (w : Workload) (r : Report) (line : ℕ) → IsFirstFault w r line → line ≤ 2 + length (report_bytes r)
judged-line w r line h =
    let a = rows-least r.rows in
    let b = memory-least r.memory in
    let c = length-append (codes "report 1\n") (row_lines r.rows ++ (memory_lines r.memory ++ codes "end\n")) in
    let d = length-append (row_lines r.rows) (memory_lines r.memory ++ codes "end\n") in
    let e = length-append (memory_lines r.memory) (codes "end\n") in
    let f = by h in
    omega arith
  where
    ends : (last : List ℕ) → EndsWrong w r (2 + length r.rows) last line → line ≤ 2 + length r.rows + length r.memory
    ends last (inl x) = let e = x.1 in omega arith
    ends last (inr x) = let e = x.2 in let a = alike-most r.memory (nonzero 0 last) in omega arith

    by : IsFirstFault w r line → line ≤ 2 + length r.rows + length r.memory
    by (inl x) = let n = wrong-at w [] _ r.rows x.0 x.1 in let e = x.2 in omega arith
    by (inr x) = ends x.0 x.2
