-- How a text is parsed, line by line.
use Rattle.std.proofs.Common.{ℕ, ◌≡◌, ◌≢◌, ◌<◌, ◌+◌, List, [], ◌∷◌, Bool, true, false, Result, Ok, Err, refl, ap, ◌∙◌, arith, length}
use Rattle.std.specs.Prelude.{◌==◌, if◌then◌else◌}
use Rattle.std.proofs.lemmas.Bool.Decides.{nat_tests}
use Rattle.work_script.specs.declared.workload.Workload.{Workload}
use Rattle.work_text.specs.declared.draft.Step.{Step}
use Rattle.work_text.specs.declared.draft.Step.TheVariants.{Head, Count, Begin, Change, Lengthen, Add, End, Schedule, Turn, Done}
use Rattle.work_text.specs.declared.parse.Mode.{Mode}
use Rattle.work_text.specs.declared.code.TheConstants.{UNENDED}
use Rattle.work_text.specs.Lines.{Line, with_byte, lines_of}
use Rattle.work_text.specs.Drafts.{Writing, after}
use Rattle.work_text.specs.Grammar.{by_words, go_on, ended, parsed}
use Rattle.work_text.specs.Reading.{judged, behind}

-- what comes of a step other than `done`
go_on-step : (step : Step) (d : Writing) (k : ℕ) (ls : List Line) (rest : Writing → Result Workload (ℕ × ℕ)) → step ≢ Done → go_on (Ok step) d k ls rest ≡ rest (after step d)
go_on-step (Head p h) d k ls rest n = refl
go_on-step (Count p m) d k ls rest n = refl
go_on-step (Begin c) d k ls rest n = refl
go_on-step (Change c a) d k ls rest n = refl
go_on-step (Lengthen c r w) d k ls rest n = refl
go_on-step (Add op) d k ls rest n = refl
go_on-step Schedule d k ls rest n = refl
go_on-step (Turn g t) d k ls rest n = refl
go_on-step End d k ls rest n = refl
go_on-step Done d k ls rest n = absurd (n refl)

-- a line at fault
pub parsed-fault : (m : Mode) (d : Writing) (k : ℕ) (ls : List Line) (code : ℕ) → judged (by_words m d) ls ≡ Err code → parsed m d k ls ≡ Err (k, code)
parsed-fault m d k [] code is = let same : UNENDED ≡ code = cc in ap (λ c. Err (k, c)) same
parsed-fault m d k (l ∷ ls) code is = ap (λ z. go_on z d k ls (λ e. parsed m e (k + 1) ls)) is

-- a line that the text goes on after
pub parsed-step : (m : Mode) (d : Writing) (k : ℕ) (ls : List Line) (step : Step) → judged (by_words m d) ls ≡ Ok step → step ≢ Done
    → parsed m d k ls ≡ parsed m (after step d) (k + 1) (behind ls)
parsed-step m d k [] step is more = cc
parsed-step m d k (l ∷ ls) step is more =
    ap (λ z. go_on z d k ls (λ e. parsed m e (k + 1) ls)) is ∙ go_on-step step d k ls (λ e. parsed m e (k + 1) ls) more

-- the `done` line
pub parsed-done : (m : Mode) (d : Writing) (k : ℕ) (ls : List Line) (step : Step) → judged (by_words m d) ls ≡ Ok step → step ≡ Done
    → parsed m d k ls ≡ ended d (k + 1) (behind ls)
parsed-done m d k [] step is done = cc
parsed-done m d k (l ∷ ls) step is done =
    ap (λ z. go_on z d k ls (λ e. parsed m e (k + 1) ls)) is ∙ ap (λ z. go_on (Ok z) d k ls (λ e. parsed m e (k + 1) ls)) done

-- no line is left
pub parsed-end : (m : Mode) (d : Writing) (k : ℕ) (s : List ℕ) → true ≡ (length s == 0) → parsed m d k (lines_of s) ≡ Err (k, UNENDED)
parsed-end m d k [] none = refl
parsed-end m d k (x ∷ xs) none = let long : (length (x ∷ xs) == 0) ≡ false = grind (arith, nat_tests) in absurd cc

with-some : (d : Writing) (k x : ℕ) (ls : List Line) → ended d k (with_byte x ls) ≡ Err (k, 11)
with-some d k x [] = refl
with-some d k x (l ∷ ls) = refl

some-by : (d : Writing) (k x : ℕ) (b : Bool) (ls : List Line) → ended d k (if b then record { bytes = []; ended = true } ∷ ls else with_byte x ls) ≡ Err (k, 11)
some-by d k x true ls = refl
some-by d k x false ls = with-some d k x ls

-- a byte after `done`
pub ended-some : (d : Writing) (k : ℕ) (r : List ℕ) → 0 < length r → ended d k (lines_of r) ≡ Err (k, 11)
ended-some d k [] lt = absurd (omega arith)
ended-some d k (x ∷ xs) lt = some-by d k x (x == 10) (lines_of xs)
