-- How a report is read, line by line.
use Rattle.std.proofs.Common.{ℕ, ◌≡◌, ◌<◌, ◌+◌, List, [], ◌∷◌, length, take, drop, true, Err, ap, ◌∙◌, arith}
use Rattle.std.specs.Prelude.{Some, None}
use Rattle.work_text.specs.Lines.{lines_of, words_of, Lacks}
use Rattle.work_text.specs.LineLaws.{cut-at, lines_of-first, lines_of-last}
use Rattle.work_check.specs.Grammar.{Reading, step_by, line_by, go_on, read}

-- a line and then the rest
pub first-line : (s : List ℕ) (i : ℕ) (r : List ℕ) → Lacks 10 (take i s) → drop i s ≡ 10 ∷ r → lines_of s ≡ record { bytes = take i s; ended = true } ∷ lines_of r
first-line s i r h at = ap lines_of (cut-at i s 10 r at) ∙ lines_of-first (take i s) r h

module _ (d : Reading) (k : ℕ) (s : List ℕ) (i : ℕ) (r : List ℕ) (h : Lacks 10 (take i s)) (at : drop i s ≡ 10 ∷ r) where
  read-first : read d k (lines_of s) ≡ go_on (line_by (step_by d.place d (words_of (take i s)))) k (λ e. read e (k + 1) (lines_of r))
  read-first = ap (read d k) (first-line s i r h at)

  pub read-wrong : step_by d.place d (words_of (take i s)) ≡ None → read d k (lines_of s) ≡ Err (k, 12)
  read-wrong wrong = read-first ∙ ap (λ x. go_on (line_by x) k (λ e. read e (k + 1) (lines_of r))) wrong

  pub read-more : (e : Reading) → step_by d.place d (words_of (take i s)) ≡ Some e → read d k (lines_of s) ≡ read e (k + 1) (lines_of r)
  read-more e next = read-first ∙ ap (λ x. go_on (line_by x) k (λ f. read f (k + 1) (lines_of r))) next

-- the last line, where no LF ends it
pub read-last : (d : Reading) (k : ℕ) (s : List ℕ) → Lacks 10 s → 0 < length s → read d k (lines_of s) ≡ Err (k, 3)
read-last d k [] h lt = absurd (omega arith)
read-last d k (x ∷ xs) h lt = ap (read d k) (lines_of-last x xs h)
