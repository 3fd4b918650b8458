-- How a text is read, line by line.
use Rattle.std.proofs.Common.{ℕ, ◌≡◌, ◌+◌, List, [], ◌∷◌, ◌++◌, length, take, drop, Bool, true, false, refl, sym, ap, ◌∙◌}
use Rattle.std.specs.Prelude.{◌==◌, if◌then◌else◌, Some, None, Result, Ok, Err, OnOk, IfErr}
use Rattle.work_text.specs.LineLaws.{cut-at, lines_of-first, lines_of-last, words_of-some}
use Rattle.work_text.specs.Lines.{Line as TextLine, with_byte, lines_of, words_of, Lacks}
use Rattle.work_text.specs.WordLaws.{unlines, unlines-lines_of}
use Rattle.work_check.specs.Grammar.{report_of, words_left}
use Rattle.work_trace.specs.declared.line.Line.{Line}
use Rattle.draw_pictures.proofs.Boxes.{some-left}
use Rattle.draw_core.specs.declared.walk.Walk.{Walk}
use Rattle.draw_core.specs.Grammar.{is_nil, line_of, is_full_clock, is_title, reported, closed, read}
use Rattle.draw_core.specs.Walks.{IsWalk}

abbrev whole_line : List ℕ → TextLine
whole_line bytes = record { bytes = bytes; ended = true }

title-by : (told : List Line) (k : ℕ) (bytes : List ℕ) (ls : List TextLine) → is_title bytes ≡ true → read told k (whole_line bytes ∷ ls) ≡ reported told k (report_of (unlines (whole_line bytes ∷ ls)))
title-by told k bytes ls title = rw title refl

clock-by : (told : List Line) (k : ℕ) (bytes : List ℕ) (ls : List TextLine) → is_title bytes ≡ false → is_full_clock (words_of bytes) ≡ true → read told k (whole_line bytes ∷ ls) ≡ closed told (k + 1) ls
clock-by told k bytes ls title full = rw (title, full) refl

wrong-by : (told : List Line) (k : ℕ) (bytes : List ℕ) (ls : List TextLine) → is_title bytes ≡ false
    → is_full_clock (words_of bytes) ≡ false → line_of (words_of bytes) ≡ None → read told k (whole_line bytes ∷ ls) ≡ Err k
wrong-by told k bytes ls title full is = rw (title, full, is) refl

more-by : (told : List Line) (k : ℕ) (bytes : List ℕ) (m : Line) (ls : List TextLine) → is_title bytes ≡ false → is_full_clock (words_of bytes) ≡ false → line_of (words_of bytes) ≡ Some m
    → read told k (whole_line bytes ∷ ls) ≡ read (told ++ m ∷ []) (k + 1) ls
more-by told k bytes m ls title full is = rw (title, full, is) refl

-- the first line of the text s, which is cut at i, where the text r follows
module _ (told : List Line) (k : ℕ) (s : List ℕ) (i : ℕ) (r : List ℕ) (lacks : Lacks 10 (take i s)) (at : drop i s ≡ 10 ∷ r) where
  lines-are : lines_of s ≡ whole_line (take i s) ∷ lines_of r
  lines-are = ap lines_of (cut-at i s 10 r at) ∙ lines_of-first (take i s) r lacks

  pub read-report : is_title (take i s) ≡ true → read told k (lines_of s) ≡ reported told k (report_of s)
  read-report title =
      ap (read told k) lines-are
      ∙ (title-by told k (take i s) (lines_of r) title ∙ ap (λ t. reported told k (report_of t)) (ap unlines (sym lines-are) ∙ unlines-lines_of s))

  pub read-clock : is_title (take i s) ≡ false → is_full_clock (words_of (take i s)) ≡ true → read told k (lines_of s) ≡ closed told (k + 1) (lines_of r)
  read-clock title full = ap (read told k) lines-are ∙ clock-by told k (take i s) (lines_of r) title full

  pub read-wrong : is_title (take i s) ≡ false → is_full_clock (words_of (take i s)) ≡ false → line_of (words_of (take i s)) ≡ None → read told k (lines_of s) ≡ Err k
  read-wrong title full is = ap (read told k) lines-are ∙ wrong-by told k (take i s) (lines_of r) title full is

  pub read-more : (m : Line) → is_title (take i s) ≡ false → is_full_clock (words_of (take i s)) ≡ false → line_of (words_of (take i s)) ≡ Some m → read told k (lines_of s) ≡ read (told ++ m ∷ []) (k + 1) (lines_of r)
  read-more m title full is = ap (read told k) lines-are ∙ more-by told k (take i s) m (lines_of r) title full is

-- no word is left
pub no-words : (rest : List ℕ) (b : Bool) → b ≡ (length rest == 0) → b ≡ is_nil (words_left rest)
no-words [] b e = e
no-words (x ∷ xs) b e = let w = words_of-some xs in e ∙ (some-left (length xs) ∙ sym (ap is_nil w.2))

-- the last line, where no LF ends it
pub read-last : (told : List Line) (k : ℕ) (s : List ℕ) → Lacks 10 s → read told k (lines_of s) ≡ Err k
read-last told k [] h = refl
read-last told k (x ∷ xs) h = ap (read told k) (lines_of-last x xs h)

-- what follows a full clock

closed-with : (told : List Line) (k x : ℕ) (ls : List TextLine) → closed told k (with_byte x ls) ≡ Err k
closed-with told k x [] = refl
closed-with told k x (l ∷ ls) = refl

closed-by : (told : List Line) (k x : ℕ) (xs : List ℕ) (b : Bool) → closed told k (if b then record { bytes = []; ended = true } ∷ lines_of xs else with_byte x (lines_of xs)) ≡ Err k
closed-by told k x xs true = refl
closed-by told k x xs false = closed-with told k x (lines_of xs)

pub closed-none : (told : List Line) (k : ℕ) (s : List ℕ) (e : Bool) → e ≡ (length s == 0) → e ≡ true → closed told k (lines_of s) ≡ Ok told
closed-none told k [] e is t = refl
closed-none told k (x ∷ xs) e is t = let no = some-left (length xs) in cc

pub closed-some : (told : List Line) (k : ℕ) (s : List ℕ) (e : Bool) → e ≡ (length s == 0) → e ≡ false → closed told k (lines_of s) ≡ Err k
closed-some told k [] e is f = cc
closed-some told k (x ∷ xs) e is f = closed-by told k x xs (x == 10)

-- how far a text was read: the lines told so far, which the walk has gone over
pub record ReadSoFar (text left : List ℕ) (number : ℕ) (walk : Walk) : Type 0 where
  pub told : List Line
  pub same : read [] 1 (lines_of text) ≡ read told number (lines_of left)
  pub is : IsWalk walk told

pub ok-then : {T E : Type 0} (r : Result T E) (A B : Type 0) → OnOk r A → (A → B) → OnOk r B
ok-then (Ok t) A B a f = f a
ok-then (Err e) A B a f = tt

pub err-then : {T E : Type 0} (r : Result T E) (P Q : E → Type 0) → IfErr r P → ((e : E) → P e → Q e) → IfErr r Q
err-then (Ok t) P Q a f = tt
err-then (Err e) P Q a f = f e a
