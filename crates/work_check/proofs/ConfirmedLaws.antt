-- A report that replays its workload is read back and found to do so.
use Rattle.std.proofs.Common.{ℕ, suc, ◌≡◌, ◌<◌, ◌≤◌, List, [], ◌∷◌, Bool, true, false, Ok, Err, refl, sym, ◌∙◌, arith, subst, length}
use Rattle.std.specs.Prelude.{◌==◌, All, if◌then◌else◌, Result, MatchResult}
use Rattle.std.specs.List.{AllByRecursion}
use Rattle.std.proofs.lemmas.Bool.Decides.{nat_tests}
use Rattle.std.proofs.lemmas.List.Elements.{All-from_recursion}
use Rattle.work_script.specs.declared.report.Report.{Report}
use Rattle.work_script.specs.declared.workload.Workload.{Workload}
use Rattle.work_script.specs.Reports.{Replays, regions_of, nonzero}
use Rattle.work_script.specs.Workloads.{ItemsFit}
use Rattle.work_text.specs.declared.parse.ParseError.{ParseError}
use Rattle.work_text.specs.declared.parse.ParseError.TheVariants.{Fault, Memory}
use Rattle.work_text.specs.Reports.{ReportFits, report_bytes}
use Rattle.work_check.specs.declared.reading.TheConstants.{MAX_REPORT}
use Rattle.work_check.specs.declared.verdict.Verdict.{Verdict}
use Rattle.work_check.specs.declared.verdict.Verdict.TheVariants.{Yes, No}
use Rattle.work_check.specs.Grammar.{report_of, Answers}
use Rattle.work_check.specs.Texts.{IsAscending, IsReadable, IsConfirmed}
use Rattle.work_check.specs.Verdicts.{Judges}
use Rattle.work_check.proofs.TextLaws.{report-read}

-- the words that aren't 0, told from the address a on

-- the pairs ascend, and the first has an address of a at least
abbrev AscendsFrom : ℕ → List (ℕ × ℕ) → Type 0
AscendsFrom a [] = Unit {0}
AscendsFrom a (p ∷ ps) = (a ≤ p.0) × AscendsFrom (suc p.0) ps

from-lower : (a : ℕ) (ps : List (ℕ × ℕ)) → AscendsFrom (suc a) ps → AscendsFrom a ps
from-lower a [] h = tt
from-lower a (p ∷ ps) h = let le = h.0 in (omega arith, h.1)

from-ascending : (a : ℕ) (ps : List (ℕ × ℕ)) → AscendsFrom a ps → IsAscending ps
from-ascending a [] h = tt
from-ascending a (p ∷ []) h = tt
from-ascending a (p ∷ q ∷ ps) h = let lt = h.1.0 in (omega arith, from-ascending (suc p.0) (q ∷ ps) h.1)

nonzero-from : (a : ℕ) (vs : List ℕ) → AscendsFrom a (nonzero a vs)
nonzero-from a [] = tt
nonzero-from a (v ∷ vs) = by (v == 0) (nonzero-from (suc a) vs)
  where
    by : (b : Bool) → AscendsFrom (suc a) (nonzero (suc a) vs) → AscendsFrom a (if b then nonzero (suc a) vs else (a, v) ∷ nonzero (suc a) vs)
    by true h = from-lower a (nonzero (suc a) vs) h
    by false h = (omega arith, h)

abbrev IsSome : ℕ × ℕ → Type 0
IsSome p = 0 < p.1

nonzero-some : (a : ℕ) (vs : List ℕ) → AllByRecursion IsSome (nonzero a vs)
nonzero-some a [] = tt
nonzero-some a (v ∷ vs) = by (v == 0) refl (nonzero-some (suc a) vs)
  where
    by : (b : Bool) → (v == 0) ≡ b → AllByRecursion IsSome (nonzero (suc a) vs) → AllByRecursion IsSome (if b then nonzero (suc a) vs else (a, v) ∷ nonzero (suc a) vs)
    by true e h = h
    by false e h = let lt : 0 < v = grind (arith, nat_tests) in (lt, h)

-- a report that replays a workload is readable
pub replayed-readable : (w : Workload) (r : Report) → Replays w r → ReportFits r → IsReadable r
replayed-readable w r is fits =
    let same = sym is.memory in
    record {
      fits = fits;
      ascending = subst IsAscending same (from-ascending 0 (nonzero 0 is.last) (nonzero-from 0 is.last));
      nonzero = subst (All IsSome) same (All-from_recursion IsSome (nonzero 0 is.last) (nonzero-some 0 is.last));
    }

-- what a reading of a text may answer where it is a report's
read-by : (r : Report) (told : Result Report (ℕ × ℕ)) (got : Result Report ParseError) → told ≡ Ok r → Answers got told → MatchResult got (λ s. s ≡ r) (λ e. e ≡ Memory)
read-by r told (Ok s) is h = let e : Ok s ≡ Ok r = sym h ∙ is in cc
read-by r told (Err (Fault line code)) is h = let e : Err (line, code) ≡ Ok r = sym h ∙ is in absurd cc
read-by r told (Err Memory) is h = refl

judged-by : (w : Workload) (r : Report) (v : Verdict) → Replays w r → Judges w r v → v ≡ Yes
judged-by w r Yes is h = refl
judged-by w r (No line) is h = absurd (h.0 is)

pub confirmed : (w : Workload) (r : Report) → ItemsFit (regions_of w.header) w.header w.items → Replays w r → ReportFits r → length (report_bytes r) ≤ MAX_REPORT → IsConfirmed w r
confirmed w r items is fits le =
    let readable = replayed-readable w r is fits in
    let text = report-read r readable le in
    record {
      taken = items;
      readable = readable;
      text = text;
      read = λ got h. read-by r (report_of (report_bytes r)) got text h;
      judged = λ v h. judged-by w r v is h;
    }
