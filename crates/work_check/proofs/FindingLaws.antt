-- A text has one finding.
use Rattle.std.proofs.Common.{ℕ, zero, suc, ◌≡◌, ◌+◌, List, [], ◌∷◌, ◌++◌, length, Ok, Err, refl, sym, ap, ◌∙◌, subst, inl, inr}
use Rattle.std.specs.Prelude.{Result}
use Rattle.work_script.specs.declared.report.Report.{Report}
use Rattle.work_script.specs.declared.report.Row.{Row}
use Rattle.work_script.specs.declared.workload.Workload.{Workload}
use Rattle.work_script.specs.Reports.{zeros, nonzero}
use Rattle.work_text.specs.Parting.{lines_to_done}
use Rattle.work_check.specs.Checks.{IsYes, IsNo, Finds}
use Rattle.work_check.specs.Verdicts.{IsWrongAt, EndsWrong, IsFirstFault, Judges, alike, memory_after}
use Rattle.work_check.specs.declared.checking.Finding.{Finding}
use Rattle.work_check.specs.declared.checking.Finding.TheVariants as findings
use Rattle.work_check.specs.declared.verdict.Verdict.{Verdict}
use Rattle.work_check.specs.declared.verdict.Verdict.TheVariants.{Yes, No}
use Rattle.work_check.proofs.VerdictLaws.{wrong-right, one-last}

-- one row is the first at fault
wrong-once : (w : Workload) (above : List Row) (m : List ℕ) (rs : List Row) (a b : ℕ) → IsWrongAt w above m rs a → IsWrongAt w above m rs b → a ≡ b
wrong-once w above m [] a b h k = absurd h
wrong-once w above m (r ∷ rs) zero zero h k = refl
wrong-once w above m (r ∷ rs) zero (suc b) h k = absurd (h k.0)
wrong-once w above m (r ∷ rs) (suc a) zero h k = absurd (k h.0)
wrong-once w above m (r ∷ rs) (suc a) (suc b) h k = ap suc (wrong-once w (above ++ r ∷ []) (memory_after w m r) rs a b h.1 k.1)

-- one line after the rows
ends-once : (w : Workload) (r : Report) (n : ℕ) (x y : List ℕ) (a b : ℕ) → x ≡ y → EndsWrong w r n x a → EndsWrong w r n y b → a ≡ b
ends-once w r n x y a b same (inl h) (inl k) = h.1 ∙ sym k.1
ends-once w r n x y a b same (inl h) (inr k) = absurd (h.0 k.0)
ends-once w r n x y a b same (inr h) (inl k) = absurd (k.0 h.0)
ends-once w r n x y a b same (inr h) (inr k) = h.2 ∙ (ap (λ m. n + alike r.memory (nonzero 0 m)) same ∙ sym k.2)

fault-once : (w : Workload) (r : Report) (a b : ℕ) → IsFirstFault w r a → IsFirstFault w r b → a ≡ b
fault-once w r a b (inl h) (inl k) = h.2 ∙ (ap (λ n. 2 + n) (wrong-once w [] (zeros w.header.words) r.rows h.0 k.0 h.1 k.1) ∙ sym k.2)
fault-once w r a b (inl h) (inr k) = absurd (wrong-right w [] (zeros w.header.words) r.rows h.0 k.0 h.1 k.1)
fault-once w r a b (inr h) (inl k) = absurd (wrong-right w [] (zeros w.header.words) r.rows k.0 h.0 k.1 h.1)
fault-once w r a b (inr h) (inr k) = ends-once w r (2 + length r.rows) h.0 k.0 a b (one-last w [] (zeros w.header.words) r.rows h.0 k.0 h.1 k.1) h.2 k.2

one-verdict : (w : Workload) (r : Report) (a b : Verdict) → Judges w r a → Judges w r b → a ≡ b
one-verdict w r Yes Yes h k = refl
one-verdict w r Yes (No b) h k = absurd (k.0 h)
one-verdict w r (No a) Yes h k = absurd (h.0 k)
one-verdict w r (No a) (No b) h k = ap No (fault-once w r a b h.1 k.1)

abbrev Pair : Type 0
Pair = Workload × Report

pair-same : (p q : Pair) (o : Result Pair (ℕ × ℕ)) → o ≡ Ok p → o ≡ Ok q → p ≡ q
pair-same p q o h k = let e : Ok p ≡ Ok q = sym h ∙ k in cc

-- verdicts on what one text was read as
read-verdict : (p q : Pair) (a b : Verdict) → p ≡ q → Judges p.0 p.1 a → Judges q.0 q.1 b → a ≡ b
read-verdict p q a b same h k = one-verdict q.0 q.1 a b (subst (λ (x : Pair). Judges x.0 x.1 a) same h) k

no-same : (a b : ℕ) → No a ≡ No b → a ≡ b
no-same a b e = cc

abbrev faulty : Result Pair (ℕ × ℕ) → Finding
faulty (Ok p) = findings.Yes
faulty (Err fault) = findings.Faulty fault.0 fault.1

faulty-same : (o : Result Pair (ℕ × ℕ)) (line code line' code' : ℕ) → o ≡ Err (line, code) → o ≡ Err (line', code') → findings.Faulty line code ≡ findings.Faulty line' code'
faulty-same o line code line' code' h k = ap faulty (sym h ∙ k)

read-faulty : (p : Pair) (o : Result Pair (ℕ × ℕ)) (fault : ℕ × ℕ) → o ≡ Ok p → o ≡ Err fault → ⊥
read-faulty p o fault h k = let e : Ok p ≡ Err fault = sym h ∙ k in absurd cc

pub one-finding : (text : List ℕ) (a b : Finding) → Finds text a → Finds text b → a ≡ b
one-finding text a b h k = by a b h k
  where
    yes-no : (line : ℕ) → IsYes text → IsNo text line → ⊥
    yes-no line y n = let e = read-verdict (y.workload, y.report) (n.workload, n.report) Yes (No n.at) (pair-same (y.workload, y.report) (n.workload, n.report) _ y.reads n.reads) y.judged n.judged in absurd cc

    by : (a b : Finding) → Finds text a → Finds text b → a ≡ b
    by findings.Yes findings.Yes h k = refl
    by findings.Yes (findings.No line) h k = absurd (yes-no line h k)
    by (findings.No line) findings.Yes h k = absurd (yes-no line k h)
    by (findings.No line) (findings.No line') h k =
        let e = read-verdict (h.workload, h.report) (k.workload, k.report) (No h.at) (No k.at) (pair-same (h.workload, h.report) (k.workload, k.report) _ h.reads k.reads) h.judged k.judged in
        ap findings.No (h.shift ∙ (ap (λ n. lines_to_done text + n) (no-same h.at k.at e) ∙ sym k.shift))
    by (findings.Faulty line code) (findings.Faulty line' code') h k = faulty-same _ line code line' code' h k
    by findings.Yes (findings.Faulty line code) h k = absurd (read-faulty (h.workload, h.report) _ (line, code) h.reads k)
    by (findings.Faulty line code) findings.Yes h k = absurd (read-faulty (k.workload, k.report) _ (line, code) k.reads h)
    by (findings.No at) (findings.Faulty line code) h k = absurd (read-faulty (h.workload, h.report) _ (line, code) h.reads k)
    by (findings.Faulty line code) (findings.No at) h k = absurd (read-faulty (k.workload, k.report) _ (line, code) k.reads h)
