-- The report below a trace.
use Rattle.std.proofs.Common.{ℕ, ◌≡◌, ◌+◌, List, [], ◌∷◌, length, take, drop, true, false, refl, sym, ap, ◌∙◌}
use Rattle.std.specs.Prelude.{ltb, bytes_eq, codes, Some, None, if◌then◌else◌}
use Rattle.work_text.specs.Lines.{Line, lines_of, Lacks}
use Rattle.work_text.specs.LineLaws.{lines_of-last}
use Rattle.work_check.specs.declared.apart.TheConstants.{MOST_TOLD}
use Rattle.work_check.specs.Apart.{titled, or_all, report_lines, IsReportIn}
use Rattle.work_check.proofs.ReadingLaws.{first-line}

drop-none : (xs : List ℕ) → xs ≡ drop 0 xs
drop-none [] = refl
drop-none (x ∷ xs) = refl

abbrev by_size : List ℕ → Type 0
by_size told = ltb MOST_TOLD (length told) ≡ false

short : (told : List ℕ) → by_size told → report_lines told ≡ or_all (lines_of told) (titled 0 (lines_of told))
short told few = ap (λ b. if b then (0, lines_of told) else or_all (lines_of told) (titled 0 (lines_of told))) few

module _ (told : List ℕ) (above : ℕ) (rest : List ℕ) (same : titled 0 (lines_of told) ≡ titled above (lines_of rest)) where
  module _ (i : ℕ) (r : List ℕ) (lacks : Lacks 10 (take i rest)) (at : drop i rest ≡ 10 ∷ r) where
    pub passed-line : bytes_eq (take i rest) (codes "report 1") ≡ false → titled 0 (lines_of told) ≡ titled (above + 1) (lines_of r)
    passed-line not =
        let line : Line = record { bytes = take i rest; ended = true } in
        same ∙ (ap (titled above) (first-line rest i r lacks at) ∙ ap (λ b. if b then Some (above, line ∷ lines_of r) else titled (above + 1) (lines_of r)) not)

  none-by : (xs : List ℕ) → Lacks 10 xs → titled above (lines_of xs) ≡ None
  none-by [] h = refl
  none-by (x ∷ xs) h = ap (titled above) (lines_of-last x xs h)

  -- no line is a report's first
  pub no-report : by_size told → Lacks 10 rest → IsReportIn told 0 told
  no-report few lacks = record { begins = 0; cut = drop-none told; is = sym (short told few ∙ ap (or_all (lines_of told)) (same ∙ none-by rest lacks)) }
