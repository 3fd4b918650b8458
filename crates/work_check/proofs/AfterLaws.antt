-- The text of a report after that of the workload which it replays.
use Rattle.std.proofs.Common.{ℕ, ◌≡◌, ◌≢◌, ◌+◌, ◌≤◌, List, [], ◌∷◌, ◌++◌, Bool, true, false, Result, Ok, Err, refl, sym, ap, ◌∙◌, arith, subst, inl, inr, length, append_assoc, append-nil}
use Rattle.std.specs.Prelude.{◌==◌, All, ltb, codes, bytes_eq, if◌then◌else◌}
use Rattle.std.proofs.lemmas.Bool.Decides.{nat_tests}
use Rattle.std.proofs.lemmas.List.Elements.{All-nil, All-cons, All-head, All-tail}
use Rattle.std.proofs.lemmas.Slice.Eq.{bytes_eq-Decides}
use Rattle.work_script.specs.declared.report.Report.{Report}
use Rattle.work_script.specs.declared.workload.Go.{Go}
use Rattle.work_script.specs.declared.workload.Header.{Header}
use Rattle.work_script.specs.declared.workload.Version.{Version}
use Rattle.work_script.specs.declared.workload.Version.TheVariants as versions
use Rattle.work_script.specs.declared.workload.Workload.{Workload}
use Rattle.work_script.specs.declared.workload.TheConstants.{MAX_TURNS}
use Rattle.work_script.specs.Reports.{Replays}
use Rattle.work_text.specs.declared.draft.NextLine.{NextLine}
use Rattle.work_text.specs.declared.draft.NextLine.TheVariants.{Items, Ops, Turns}
use Rattle.work_text.specs.declared.draft.Step.{Step}
use Rattle.work_text.specs.declared.draft.Step.TheVariants.{Head, Count, Begin, Change, Lengthen, Add, End, Schedule, Turn, Done}
use Rattle.work_text.specs.declared.parse.Mode.{Mode}
use Rattle.work_text.specs.declared.parse.Mode.TheVariants.{Run, Step as Stepwise}
use Rattle.work_text.specs.declared.parse.TheConstants.{MAX_TEXT}
use Rattle.work_text.specs.Parsed.{IsParsed, GoFits, ScheduleFits}
use Rattle.work_text.specs.Drafts.{Writing, after, opening}
use Rattle.work_text.proofs.Giving.{Gives, gives-with, given}
use Rattle.work_text.specs.Grammar.{keyless, one_word, step_of, ended, go_on, parsed, workload_of}
use Rattle.work_text.specs.LineLaws.{lines_of-first, lines_of-last, lacks-snoc}
use Rattle.work_text.specs.Lines.{Line, with_byte, lines_of, Lacks}
use Rattle.work_text.specs.Parting.{parted_by, to_done, after_done, lines_to_done, done_line}
use Rattle.work_text.specs.Reports.{report_bytes}
use Rattle.work_text.specs.Texts.{joined, header_lines, items_lines, lines_with, lines_text, schedule_lines, AreLinesOf, IsTextOf, TextIsRead, TextIsWritten, TextIsParsed}
use Rattle.work_check.specs.Checks.{IsYes, with_report, with_workload}
use Rattle.work_check.specs.Grammar.{report_of}

abbrev IsOther : Line → Type 0
IsOther l = l ≢ done_line

abbrev line_at : List ℕ → Line
line_at line = record { bytes = line; ended = true }

abbrev bytes_at : Line → List ℕ
bytes_at l = l.bytes

abbrev ended_at : Line → Bool
ended_at l = l.ended

first-same : (a b : Line) (xs ys : List Line) → a ∷ xs ≡ b ∷ ys → (a ≡ b) × (xs ≡ ys)
first-same a b xs ys e =
    let h : a ≡ b = cc in
    let t : xs ≡ ys = cc in
    (h, t)

-- A WORKLOAD'S TEXT ENDS WITH A LINE `done`

-- the lines after an LF are lines of the whole
behind-lf : (t r : List ℕ) → (l : Line) × (ls : List Line) × (lines_of (t ++ 10 ∷ r) ≡ l ∷ (ls ++ lines_of r))
behind-lf [] r = (line_at [], [], refl)
behind-lf (b ∷ t) r = by (b == 10) (behind-lf t r)
  where
    by : (lf : Bool) → (l : Line) × (ls : List Line) × (lines_of (t ++ 10 ∷ r) ≡ l ∷ (ls ++ lines_of r))
        → (l : Line) × (ls : List Line) × ((if lf then line_at [] ∷ lines_of (t ++ 10 ∷ r) else with_byte b (lines_of (t ++ 10 ∷ r))) ≡ l ∷ (ls ++ lines_of r))
    by true h = (line_at [], h.0 ∷ h.1, ap (λ ls. line_at [] ∷ ls) h.2)
    by false h = (record { bytes = b ∷ h.0.bytes; ended = h.0.ended }, h.1, ap (with_byte b) h.2)

abbrev done_words : List (List (List ℕ))
done_words = (codes "done" ∷ []) ∷ []

abbrev EndsSo : List ℕ → Type 0
EndsSo text = (before : List Line) × (lines_of text ≡ before ++ done_line ∷ [])

lines-end : (lines : List (List (List ℕ))) → EndsSo (lines_text (lines ++ done_words))
lines-end [] = ([], refl)
lines-end (ws ∷ more) =
    let h = lines-end more in
    let rest = lines_text (more ++ done_words) in
    let a = behind-lf (joined ws) rest in
    (a.0 ∷ (a.1 ++ h.0), ap lines_of (append_assoc (joined ws) (10 ∷ []) rest) ∙ (a.2 ∙ (ap (λ ls. a.0 ∷ (a.1 ++ ls)) h.1 ∙ ap (λ ls. a.0 ∷ ls) (sym (append_assoc a.1 h.0 (done_line ∷ []))))))

done-regroup : (h i s x : List (List (List ℕ))) → (h ++ (i ++ s)) ++ x ≡ h ++ (i ++ (s ++ x))
done-regroup h i s x = simp append_assoc

with-end : (schedule : List (List (List ℕ))) (w : Workload) (text : List ℕ) → text ≡ lines_text (lines_with schedule w) → EndsSo text
with-end schedule w text is =
    let head = header_lines w.header in
    let items = items_lines w.header.version w.items in
    subst EndsSo (sym (is ∙ ap lines_text (sym (done-regroup head items schedule done_words)))) (lines-end (head ++ (items ++ schedule)))

text-ends : (m : Mode) (w : Workload) (text : List ℕ) → IsTextOf m w text → EndsSo text
text-ends m w text is = by is.0 is.1 is.2
  where
    by : (lines : List (List (List ℕ))) → AreLinesOf m w lines → text ≡ lines_text lines → EndsSo text
    by lines (inl e) text-is = with-end (schedule_lines w.schedule) w text (text-is ∙ ap lines_text e)
    by lines (inr e) text-is = with-end ((codes "schedule" ∷ []) ∷ []) w text (text-is ∙ ap lines_text e.2)

-- AND HAS NONE BEFORE

-- a line `done` is the last one, or none that may stand there
done-stops : (m : Mode) (d : Writing) → Gives (λ (s : Step). s ≡ Done) (step_of m d done_line)
done-stops m d = by d.place
  where
    in_tx : (x : Version) → Gives (λ (s : Step). s ≡ Done) (keyless x d (codes "done"))
    in_tx versions.One = tt
    in_tx versions.Two = tt

    by : (p : NextLine) → Gives (λ (s : Step). s ≡ Done) (one_word p m d (codes "done"))
    by Items = refl
    by Ops = in_tx d.header.version
    by Turns = refl
    by p = tt

other-line : (m : Mode) (d : Writing) (l : Line) (step : Step) → step ≢ Done → step_of m d l ≡ Ok step → IsOther l
other-line m d l step n is same =
    n (given (λ (s : Step). s ≡ Done) (step_of m d done_line) step (done-stops m d) (ap (step_of m d) (sym same) ∙ is))

abbrev AllOther : List Line → Workload → Type 0
AllOther ls w = All IsOther ls

ended-none : (d : Writing) (k : ℕ) (l : Line) (ls : List Line) → Gives (AllOther (l ∷ ls)) (ended d k (ls ++ done_line ∷ []))
ended-none d k l [] = tt
ended-none d k l (x ∷ ls) = tt

any-none : (r : Result Workload (ℕ × ℕ)) → Gives (AllOther []) r
any-none (Ok w) = All-nil IsOther
any-none (Err c) = tt

step-none : (m : Mode) (d : Writing) (k : ℕ) (l : Line) (ls : List Line) (step : Step) → step ≢ Done → step_of m d l ≡ Ok step
    → Gives (AllOther ls) (parsed m (after step d) (k + 1) (ls ++ done_line ∷ [])) → Gives (AllOther (l ∷ ls)) (parsed m (after step d) (k + 1) (ls ++ done_line ∷ []))
step-none m d k l ls step n is h =
    gives-with (AllOther ls) (AllOther (l ∷ ls)) (parsed m (after step d) (k + 1) (ls ++ done_line ∷ [])) h
    (λ w others. All-cons IsOther l ls (other-line m d l step n is) others)

go_on-none : (m : Mode) (d : Writing) (k : ℕ) (l : Line) (ls : List Line) (r : Result Step ℕ) → step_of m d l ≡ r → ((e : Writing) → Gives (AllOther ls) (parsed m e (k + 1) (ls ++ done_line ∷ [])))
    → Gives (AllOther (l ∷ ls)) (go_on r d k (ls ++ done_line ∷ []) (λ e. parsed m e (k + 1) (ls ++ done_line ∷ [])))
go_on-none m d k l ls (Err c) is g = tt
go_on-none m d k l ls (Ok Done) is g = ended-none d (k + 1) l ls
go_on-none m d k l ls (Ok (Head q h)) is g = step-none m d k l ls (Head q h) (λ e. cc) is (g (after (Head q h) d))
go_on-none m d k l ls (Ok (Count q n)) is g = step-none m d k l ls (Count q n) (λ e. cc) is (g (after (Count q n) d))
go_on-none m d k l ls (Ok (Begin c)) is g = step-none m d k l ls (Begin c) (λ e. cc) is (g (after (Begin c) d))
go_on-none m d k l ls (Ok (Change c a)) is g = step-none m d k l ls (Change c a) (λ e. cc) is (g (after (Change c a) d))
go_on-none m d k l ls (Ok (Lengthen c r w)) is g = step-none m d k l ls (Lengthen c r w) (λ e. cc) is (g (after (Lengthen c r w) d))
go_on-none m d k l ls (Ok (Add op)) is g = step-none m d k l ls (Add op) (λ e. cc) is (g (after (Add op) d))
go_on-none m d k l ls (Ok End) is g = step-none m d k l ls End (λ e. cc) is (g (after End d))
go_on-none m d k l ls (Ok Schedule) is g = step-none m d k l ls Schedule (λ e. cc) is (g (after Schedule d))
go_on-none m d k l ls (Ok (Turn go all)) is g = step-none m d k l ls (Turn go all) (λ e. cc) is (g (after (Turn go all) d))

none-before : (m : Mode) (d : Writing) (k : ℕ) (before : List Line) → Gives (AllOther before) (parsed m d k (before ++ done_line ∷ []))
none-before m d k [] = any-none (parsed m d k (done_line ∷ []))
none-before m d k (l ∷ ls) = go_on-none m d k l ls (step_of m d l) refl (λ e. none-before m e (k + 1) ls)

-- SO THAT IS WHERE A TEXT IS PARTED THAT GOES ON

no-end : (before : List Line) → [] ≡ before ++ done_line ∷ [] → ⊥
no-end [] e = cc
no-end (l ∷ ls) e = cc

one-end : (l : Line) (before : List Line) → l.ended ≡ false → l ∷ [] ≡ before ++ done_line ∷ [] → ⊥
one-end l [] unended e = let is : false ≡ true = sym unended ∙ ap ended_at (first-same l done_line [] [] e).0 in absurd cc
one-end l (b ∷ ls) unended e = no-end ls (first-same l b [] (ls ++ done_line ∷ []) e).1

at-end : (line : List ℕ) (before : List Line) → Lacks 10 line → lines_of (line ++ []) ≡ before ++ done_line ∷ [] → ⊥
at-end [] before lacks is = no-end before is
at-end (x ∷ xs) before lacks is =
    one-end (record { bytes = x ∷ xs; ended = false }) before refl (sym (ap lines_of (append-nil (x ∷ xs)) ∙ lines_of-last x xs lacks) ∙ is)

with-none : (b : ℕ) (ls : List Line) → with_byte b ls ≡ [] → ⊥
with-none b [] e = cc
with-none b (l ∷ ls) e = cc

none-left : (t : List ℕ) → lines_of t ≡ [] → t ≡ []
none-left [] is = refl
none-left (b ∷ t) is = absurd (by (b == 10) is)
  where
    by : (lf : Bool) → (if lf then line_at [] ∷ lines_of t else with_byte b (lines_of t)) ≡ [] → ⊥
    by true e = cc
    by false e = with-none b (lines_of t) e

at-done : (line t : List ℕ) (before : List Line) → line ≡ codes "done" → line_at line ∷ lines_of t ≡ before ++ done_line ∷ [] → All IsOther before → t ≡ []
at-done line t [] is e none = none-left t (first-same (line_at line) done_line (lines_of t) [] e).1
at-done line t (l ∷ ls) is e none =
    absurd (All-head IsOther l ls none (sym (first-same (line_at line) l (lines_of t) (ls ++ done_line ∷ []) e).0 ∙ ap line_at is))

abbrev Goes : List ℕ → Type 0
Goes t = (before : List Line) × (lines_of t ≡ before ++ done_line ∷ []) × All IsOther before

past-other : (line t : List ℕ) (before : List Line) → line ≢ codes "done" → line_at line ∷ lines_of t ≡ before ++ done_line ∷ [] → All IsOther before → Goes t
past-other line t [] other e none = absurd (other (ap bytes_at (first-same (line_at line) done_line (lines_of t) [] e).0))
past-other line t (l ∷ ls) other e none =
    (ls, (first-same (line_at line) l (lines_of t) (ls ++ done_line ∷ []) e).1, All-tail IsOther l ls none)

not-done : (line : List ℕ) → bytes_eq line (codes "done") ≡ false → line ≢ codes "done"
not-done line n is = let y : bytes_eq line (codes "done") ≡ true = (bytes_eq-Decides line (codes "done")).1 is in absurd cc

abbrev Two : Type 0
Two = List ℕ × List ℕ

abbrev two : List ℕ → List ℕ → Two
two a b = (a, b)

abbrev push : ℕ → Two → Two
push b p = (b ∷ p.0, p.1)

parted-at : (line t x : List ℕ) (before : List Line) → Lacks 10 line → lines_of (line ++ t) ≡ before ++ done_line ∷ [] → All IsOther before → parted_by line (t ++ x) ≡ (t, x)
parted-at line [] x before lacks is none = absurd (at-end line before lacks is)
parted-at line (b ∷ t) x before lacks is none =
    by (λ (g : Goes t). parted-at [] t x g.0 tt g.1 g.2)
    (λ other. parted-at (line ++ b ∷ []) t x before (lacks-snoc 10 b line lacks other) (ap lines_of (append_assoc line (b ∷ []) t) ∙ is) none)
    (b == 10) refl (bytes_eq line (codes "done")) refl
  where
    first : b ≡ 10 → line_at line ∷ lines_of t ≡ before ++ done_line ∷ []
    first lf = sym (ap (λ n. lines_of (line ++ n ∷ t)) lf ∙ lines_of-first line t lacks) ∙ is

    by : (Goes t → parted_by [] (t ++ x) ≡ (t, x)) → (b ≢ 10 → parted_by (line ++ b ∷ []) (t ++ x) ≡ (t, x)) → (lf : Bool) → (b == 10) ≡ lf → (done : Bool) → bytes_eq line (codes "done") ≡ done
        → (if lf then (if done then two (b ∷ []) (t ++ x) else two (b ∷ (parted_by [] (t ++ x)).0) (parted_by [] (t ++ x)).1) else two
        (b ∷ (parted_by (line ++ b ∷ []) (t ++ x)).0) (parted_by (line ++ b ∷ []) (t ++ x)).1) ≡ two (b ∷ t) x
    by new on true e true d =
        let lf : b ≡ 10 = grind (arith, nat_tests) in
        let gone = at-done line t before ((bytes_eq-Decides line (codes "done")).0 d) (first lf) none in
        ap (λ (r : List ℕ). let p : Two = (b ∷ [], r ++ x) in p) gone ∙ ap (λ (r : List ℕ). let p : Two = (b ∷ r, x) in p) (sym gone)
    by new on true e false d =
        let lf : b ≡ 10 = grind (arith, nat_tests) in
        ap (push b) (new (past-other line t before (not-done line d) (first lf) none))
    by new on false e done d =
        let other : b ≢ 10 = grind (arith, nat_tests) in
        ap (push b) (on other)

abbrev Parses : Mode → List ℕ → Workload → Type 0
Parses m text w = workload_of m text ≡ Ok w

-- what was read wasn't too long, and is what its lines give
parsed-so : (m : Mode) (text : List ℕ) (w : Workload) → Parses m text w → (length text ≤ MAX_TEXT) × (parsed m opening 1 (lines_of text) ≡ Ok w)
parsed-so m text w is = by (ltb MAX_TEXT (length text)) refl is
  where
    by : (b : Bool) → ltb MAX_TEXT (length text) ≡ b → (if b then Err (0, 1) else parsed m opening 1 (lines_of text)) ≡ Ok w → (length text ≤ MAX_TEXT) × (parsed m opening 1 (lines_of text) ≡ Ok w)
    by true e h = absurd cc
    by false e h = let le : length text ≤ MAX_TEXT = grind (arith, nat_tests) in (le, h)

text-parted : (m : Mode) (text x : List ℕ) (w : Workload) → Parses m text w → IsTextOf m w text → parted_by [] (text ++ x) ≡ (text, x)
text-parted m text x w is of =
    let ends = text-ends m w text of in
    let reads = ap (parsed m opening 1) (sym ends.1) ∙ (parsed-so m text w is).1 in
    let none = given (AllOther ends.0) (parsed m opening 1 (ends.0 ++ done_line ∷ [])) w (none-before m opening 1 ends.0) reads in
    parted-at [] text x ends.0 tt ends.1 none

-- WHAT RUN READS, STEP READS

any-schedule : (m : Mode) (h : Header) (gos : List Go) → ScheduleFits m h gos → ScheduleFits Stepwise h gos
any-schedule Run h gos none = let le : 0 ≤ MAX_TURNS = omega arith in subst (ScheduleFits Stepwise h) (sym none) (All-nil (GoFits h), le)
any-schedule Stepwise h gos fits = fits

any-lines : (m : Mode) (w : Workload) (lines : List (List (List ℕ))) → AreLinesOf m w lines → AreLinesOf Stepwise w lines
any-lines m w lines (inl e) = inl e
any-lines m w lines (inr e) = inr (refl, e.1, e.2)

pub read-stepwise : TextIsRead → TextIsWritten → TextIsParsed → (m : Mode) (text : List ℕ) (w : Workload) → Parses m text w → Parses Stepwise text w
read-stepwise read written is_parsed m text w is =
    let b = is_parsed m text w is in
    let of = written m text w is in
    let b' : IsParsed Stepwise w = record { header = b.header; count = b.count; items = b.items; schedule = any-schedule m w.header w.schedule b.schedule } in
    read Stepwise w text b' (of.0, any-lines m w of.0 of.1, of.2) (parsed-so m text w is).0

pub behind-confirmed : TextIsRead → TextIsWritten → TextIsParsed → (m : Mode) (text : List ℕ) (w : Workload) (r : Report) → Parses m text w
    → Replays w r → report_of (report_bytes r) ≡ Ok r → IsYes (text ++ report_bytes r)
behind-confirmed read written is_parsed m text w r is replays reads =
    let x = report_bytes r in
    let parts = text-parted m text x w is (written m text w is) in
    let to : to_done (text ++ x) ≡ text = ap (λ (p : Two). p.0) parts in
    let be : after_done (text ++ x) ≡ x = ap (λ (p : Two). p.1) parts in
    let k = lines_to_done (text ++ x) in
    record {
      workload = w;
      report = r;
      reads =
          ap (λ t. with_workload (workload_of Stepwise t) k (after_done (text ++ x))) to
          ∙ (ap (λ b. with_workload (workload_of Stepwise text) k b) be
          ∙ (ap (λ o. with_workload o k x) (read-stepwise read written is_parsed m text w is) ∙ ap (with_report k w) reads));
      judged = replays;
    }
