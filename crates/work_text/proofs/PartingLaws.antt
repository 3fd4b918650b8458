-- A text is parted after its first line `done`.
use Rattle.std.proofs.Common.{ℕ, ◌≡◌, ◌≢◌, List, [], ◌∷◌, ◌++◌, Bool, true, false, refl, sym, ap, ◌∙◌, arith, subst, inl, inr, append_assoc, append-nil, length, length-append, length-drop, take, drop, ◌+◌, ◌<◌, ◌≤◌}
use Rattle.std.specs.Prelude.{◌==◌, ◌⊎◌, All, if◌then◌else◌, codes, bytes_eq}
use Rattle.std.proofs.lemmas.Bool.Decides.{nat_tests}
use Rattle.std.proofs.lemmas.List.Elements.{All-nil, All-cons}
use Rattle.std.proofs.lemmas.List.{length-take-le}
use Rattle.std.proofs.Math.Seq.{take-append_seam}
use Rattle.std.proofs.lemmas.Slice.Eq.{bytes_eq-Decides}
use Rattle.work_text.specs.Lines.{Line, lines_of, Lacks}
use Rattle.work_text.specs.Parting.{parted_by, done_line, IsParted}
use Rattle.work_text.specs.LineLaws.{lines_of-first, lines_of-last, lacks-snoc, cut-at}

abbrev IsOther : Line → Type 0
IsOther l = l ≢ done_line

-- the lines of what has been gone through, with the line so far before it
record Parts (line text : List ℕ) (p : List ℕ × List ℕ) : Type 0 where
  whole : text ≡ p.0 ++ p.1
  before : List Line
  none : All IsOther before
  ends : (lines_of (line ++ p.0) ≡ before ++ done_line ∷ []) ⊎ ((lines_of (line ++ p.0) ≡ before) × (p.1 ≡ []))

abbrev line_at : List ℕ → Line
line_at line = record { bytes = line; ended = true }

abbrev bytes_at : Line → List ℕ
bytes_at l = l.bytes

abbrev ended_at : Line → Bool
ended_at l = l.ended

unended-other : (x : ℕ) (xs : List ℕ) → IsOther (record { bytes = x ∷ xs; ended = false })
unended-other x xs e = let t : false ≡ true = ap ended_at e in absurd cc

at-end : (line : List ℕ) → Lacks 10 line → Parts line [] ([], [])
at-end [] h = record { whole = refl; before = []; none = All-nil IsOther; ends = inr (refl, refl) }
at-end (x ∷ xs) h =
    let one : Line = record { bytes = x ∷ xs; ended = false } in
    record {
      whole = refl;
      before = one ∷ [];
      none = All-cons IsOther one [] (unended-other x xs) (All-nil IsOther);
      ends = inr (ap lines_of (append-nil (x ∷ xs)) ∙ lines_of-last x xs h, refl);
    }

-- after a line that isn't `done`
line-past : (line bs : List ℕ) (p : List ℕ × List ℕ) → Lacks 10 line → line ≢ codes "done" → Parts [] bs p → Parts line (10 ∷ bs) (10 ∷ p.0, p.1)
line-past line bs p lacks other h =
    let first = lines_of-first line p.0 lacks in
    record {
      whole = ap (λ t. 10 ∷ t) h.whole;
      before = line_at line ∷ h.before;
      none = All-cons IsOther (line_at line) h.before (λ e. other (ap bytes_at e)) h.none;
      ends = by h.ends first;
    }
  where
    by : (lines_of p.0 ≡ h.before ++ done_line ∷ []) ⊎ ((lines_of p.0 ≡ h.before) × (p.1 ≡ [])) → lines_of (line ++ 10 ∷ p.0) ≡ line_at line ∷ lines_of p.0
        → (lines_of (line ++ 10 ∷ p.0) ≡ (line_at line ∷ h.before) ++ done_line ∷ []) ⊎ ((lines_of (line ++ 10 ∷ p.0) ≡ line_at line ∷ h.before) × (p.1 ≡ []))
    by (inl e) first = inl (first ∙ ap (λ ls. line_at line ∷ ls) e)
    by (inr e) first = inr (first ∙ ap (λ ls. line_at line ∷ ls) e.0, e.1)

-- at a line `done`
line-done : (line bs : List ℕ) → Lacks 10 line → line ≡ codes "done" → Parts line (10 ∷ bs) (10 ∷ [], bs)
line-done line bs lacks is =
    record {
      whole = refl;
      before = [];
      none = All-nil IsOther;
      ends = inl (lines_of-first line [] lacks ∙ ap (λ l. line_at l ∷ []) is);
    }

-- one more byte of the line
byte-past : (b : ℕ) (line bs : List ℕ) (p : List ℕ × List ℕ) → Parts (line ++ b ∷ []) bs p → Parts line (b ∷ bs) (b ∷ p.0, p.1)
byte-past b line bs p h =
    let same : lines_of ((line ++ b ∷ []) ++ p.0) ≡ lines_of (line ++ b ∷ p.0) = ap lines_of (append_assoc line (b ∷ []) p.0) in
    record {
      whole = ap (λ t. b ∷ t) h.whole;
      before = h.before;
      none = h.none;
      ends = subst (λ ls. (ls ≡ h.before ++ done_line ∷ []) ⊎ ((ls ≡ h.before) × (p.1 ≡ []))) same h.ends;
    }

not-done : (line : List ℕ) → bytes_eq line (codes "done") ≡ false → line ≢ codes "done"
not-done line n is = let y : bytes_eq line (codes "done") ≡ true = (bytes_eq-Decides line (codes "done")).1 is in absurd cc

parts : (line text : List ℕ) → Lacks 10 line → Parts line text (parted_by line text)
parts line [] lacks = at-end line lacks
parts line (b ∷ bs) lacks = by (parts [] bs tt) (λ other. parts (line ++ b ∷ []) bs (lacks-snoc 10 b line lacks other)) (b == 10) refl (bytes_eq line (codes "done")) refl
  where
    by : Parts [] bs (parted_by [] bs) → (b ≢ 10 → Parts (line ++ b ∷ []) bs (parted_by (line ++ b ∷ []) bs)) → (lf : Bool) → (b == 10) ≡ lf → (done : Bool) → bytes_eq line (codes "done") ≡ done
        → Parts line (b ∷ bs)
        (if lf then (if done then (b ∷ [], bs) else (b ∷ (parted_by [] bs).0, (parted_by [] bs).1)) else (b ∷ (parted_by (line ++ b ∷ []) bs).0, (parted_by (line ++ b ∷ []) bs).1))
    by new on true e true d =
        let is : b ≡ 10 = grind (arith, nat_tests) in
        subst (λ x. Parts line (x ∷ bs) (x ∷ [], bs)) (sym is) (line-done line bs lacks ((bytes_eq-Decides line (codes "done")).0 d))
    by new on true e false d =
        let is : b ≡ 10 = grind (arith, nat_tests) in
        subst (λ x. Parts line (x ∷ bs) (x ∷ (parted_by [] bs).0, (parted_by [] bs).1)) (sym is) (line-past line bs (parted_by [] bs) lacks (not-done line d) new)
    by new on false e done d =
        let other : b ≢ 10 = grind (arith, nat_tests) in
        byte-past b line bs (parted_by (line ++ b ∷ []) bs) (on other)

pub text-parted : (text : List ℕ) → IsParted text (parted_by [] text).0 (parted_by [] text).1
text-parted text = let h = parts [] text tt in record { whole = h.whole; before = h.before; none = h.none; ends = h.ends }

abbrev Two : Type 0
Two = List ℕ × List ℕ

-- what a line and the text after it are parted into
abbrev line_parted : Bool → List ℕ → List ℕ → Two
line_parted true xs r = (xs ++ 10 ∷ [], r)
line_parted false xs r = (xs ++ 10 ∷ (parted_by [] r).0, (parted_by [] r).1)

abbrev byte_parted : Bool → List ℕ → ℕ → List ℕ → Two
byte_parted true line x xs = if bytes_eq line (codes "done") then (x ∷ [], xs) else (x ∷ (parted_by [] xs).0, (parted_by [] xs).1)
byte_parted false line x xs = (x ∷ (parted_by (line ++ x ∷ []) xs).0, (parted_by (line ++ x ∷ []) xs).1)

by-byte : (b : Bool) (line : List ℕ) (x : ℕ) (xs : List ℕ) → (x == 10) ≡ b → parted_by line (x ∷ xs) ≡ byte_parted b line x xs
by-byte true line x xs e = rw e refl
by-byte false line x xs e = rw e refl

by-done : (b : Bool) (line r : List ℕ) → bytes_eq line (codes "done") ≡ b → parted_by line (10 ∷ r) ≡ line_parted b [] r
by-done true line r e = rw e refl
by-done false line r e = rw e refl

abbrev push : ℕ → Two → Two
push x p = (x ∷ p.0, p.1)

pushed : (b : Bool) (x : ℕ) (xs r : List ℕ) → push x (line_parted b xs r) ≡ line_parted b (x ∷ xs) r
pushed true x xs r = refl
pushed false x xs r = refl

abbrev line_none : List ℕ → Two
line_none xs = (xs, [])

-- a text that begins with this line
pub parted-line : (line xs r : List ℕ) (b : Bool) → Lacks 10 xs → bytes_eq (line ++ xs) (codes "done") ≡ b → parted_by line (xs ++ 10 ∷ r) ≡ line_parted b xs r
parted-line line [] r b h e = by-done b line r (ap (λ l. bytes_eq l (codes "done")) (sym (append-nil line)) ∙ e)
parted-line line (x ∷ xs) r b h e =
    let no-lf : (x == 10) ≡ false = (let n = h.0 in grind (arith, nat_tests)) in
    let same : bytes_eq ((line ++ x ∷ []) ++ xs) (codes "done") ≡ b = ap (λ l. bytes_eq l (codes "done")) (append_assoc line (x ∷ []) xs) ∙ e in
    by-byte false line x (xs ++ 10 ∷ r) no-lf ∙ (ap (push x) (parted-line (line ++ x ∷ []) xs r b h.1 same) ∙ pushed b x xs r)

-- a text without an LF
pub parted-none : (line xs : List ℕ) → Lacks 10 xs → parted_by line xs ≡ line_none xs
parted-none line [] h = refl
parted-none line (x ∷ xs) h =
    let no-lf : (x == 10) ≡ false = (let n = h.0 in grind (arith, nat_tests)) in
    by-byte false line x xs no-lf ∙ ap (push x) (parted-none (line ++ x ∷ []) xs h.1)

abbrev both : List ℕ → List ℕ → Two
both y x = (x, y)

abbrev behind : List ℕ → Two → Two
behind xs p = (xs ++ p.0, p.1)

-- what has been gone through of a text without a line `done` in it
pub record Gone (text rest : List ℕ) (at : ℕ) : Type 0 where
  pub gone : List ℕ
  pub whole : text ≡ gone ++ rest
  pub count : at ≡ length gone
  pub parted : parted_by [] text ≡ behind gone (parted_by [] rest)

-- a line at the place i
line-of : (s : List ℕ) (i : ℕ) (r : List ℕ) (b : Bool) → Lacks 10 (take i s) → drop i s ≡ 10 ∷ r → bytes_eq (take i s) (codes "done") ≡ b → parted_by [] s ≡ line_parted b (take i s) r
line-of s i r b lacks at e = ap (parted_by []) (cut-at i s 10 r at) ∙ parted-line [] (take i s) r b lacks e

longer : (s : List ℕ) (i : ℕ) (r : List ℕ) → drop i s ≡ 10 ∷ r → i < length s → length (take i s ++ 10 ∷ []) ≡ i + 1
longer s i r at lt =
    let a = length-append (take i s) (10 ∷ []) in
    let b = length-take-le i s (omega arith) in
    omega arith

pub gone-line : (text s : List ℕ) (at i : ℕ) (r : List ℕ) → Lacks 10 (take i s) → drop i s ≡ 10 ∷ r → i < length s → bytes_eq (take i s) (codes "done") ≡ false → Gone text s at → Gone text r (at + (i + 1))
gone-line text s at i r lacks cut lt other h =
    let p = line-of s i r false lacks cut other in
    let l = longer s i r cut lt in
    let n = length-append h.gone (take i s ++ 10 ∷ []) in
    let c = h.count in
    record {
      gone = h.gone ++ (take i s ++ 10 ∷ []);
      whole = h.whole ∙ (ap (λ t. h.gone ++ t) (cut-at i s 10 r cut ∙ sym (append_assoc (take i s) (10 ∷ []) r)) ∙ sym (append_assoc h.gone (take i s ++ 10 ∷ []) r));
      count = omega arith;
      parted =
          h.parted
          ∙ (ap (behind h.gone) p
          ∙ ap (both (parted_by [] r).1)
          (ap (λ t. h.gone ++ t) (sym (append_assoc (take i s) (10 ∷ []) (parted_by [] r).0))
          ∙ sym (append_assoc h.gone (take i s ++ 10 ∷ []) (parted_by [] r).0)));
    }

pub gone-done : (text s : List ℕ) (at i : ℕ) (r : List ℕ) → Lacks 10 (take i s) → drop i s ≡ 10 ∷ r → i < length s → bytes_eq (take i s) (codes "done") ≡ true → Gone text s at
    → parted_by [] text ≡ both r (take (at + (i + 1)) text)
gone-done text s at i r lacks cut lt is h =
    let p = line-of s i r true lacks cut is in
    let l = longer s i r cut lt in
    let n = length-append h.gone (take i s ++ 10 ∷ []) in
    let c = h.count in
    let head : List ℕ = h.gone ++ (take i s ++ 10 ∷ []) in
    let long : at + (i + 1) ≡ length head = omega arith in
    let whole : text ≡ head ++ r = h.whole ∙ (ap (λ t. h.gone ++ t) (cut-at i s 10 r cut ∙ sym (append_assoc (take i s) (10 ∷ []) r)) ∙ sym (append_assoc h.gone (take i s ++ 10 ∷ []) r)) in
    let cutting : take (at + (i + 1)) text ≡ head = ap (λ k. take k text) long ∙ (ap (take (length head)) whole ∙ take-append_seam head r) in
    h.parted ∙ (ap (behind h.gone) p ∙ ap (both r) (sym cutting))

pub gone-end : (text s : List ℕ) (at : ℕ) → Lacks 10 s → Gone text s at → parted_by [] text ≡ both [] text
gone-end text s at lacks h = h.parted ∙ (ap (behind h.gone) (parted-none [] s lacks) ∙ ap (both []) (sym h.whole))

-- the lines of a text that have been counted
pub record Counted (text rest : List ℕ) (n : ℕ) : Type 0 where
  pub lines : length (lines_of text) ≡ n + length (lines_of rest)
  pub least : n + length rest ≤ length text

pub counted-none : (text : List ℕ) → Counted text text 0
counted-none text = record { lines = omega arith; least = omega arith }

pub counted-line : (text s : List ℕ) (n i : ℕ) → Lacks 10 (take i s) → drop i s ≡ 10 ∷ drop (i + 1) s → i < length s → Counted text s n → Counted text (drop (i + 1) s) (n + 1)
counted-line text s n i lacks cut lt h =
    let one = ap length (ap lines_of (cut-at i s 10 (drop (i + 1) s) cut) ∙ lines_of-first (take i s) (drop (i + 1) s) lacks) in
    let d = length-drop (i + 1) s in
    let a = h.lines in
    let b = h.least in
    record { lines = omega arith; least = omega arith }

pub counted-rest : (text s : List ℕ) (n : ℕ) → Lacks 10 s → (length s == 0) ≡ false → Counted text s n → n + 1 ≡ length (lines_of text)
counted-rest text [] n lacks e h = absurd cc
counted-rest text (x ∷ xs) n lacks e h =
    let one = ap length (lines_of-last x xs lacks) in
    let a = h.lines in
    omega arith
