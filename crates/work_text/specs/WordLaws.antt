-- Words of a line, joined and read back; words and lines of a text, put together again.
use Rattle.std.proofs.Common.{ℕ, ◌≡◌, ◌<◌, ◌≤◌, ◌^◌, List, [], ◌∷◌, ◌++◌, Bool, true, false, ◌&&◌, ◌||◌, refl, sym, ap, ◌∙◌, arith}
use Rattle.std.specs.Prelude.{◌==◌, if◌then◌else◌, leb, ltb}
use Rattle.std.specs.Fmt.{decimal}
use Rattle.std.proofs.lemmas.Bool.Decides.{nat_tests}
use Rattle.work_text.specs.Lines.{Line, with_byte, lines_of, with_letter, words_of, any_bad, Lacks}
use Rattle.work_text.specs.Texts.{joined}
use Rattle.work_text.specs.LineLaws.{words_of-one, words_of-first, words_of-some}
use Rattle.work_text.specs.Decimals.{Digits, digits-decimal}

-- bytes that can be seen: no space, and none that a line may not have
abbrev pub Visible : List ℕ → Type 0
Visible [] = Unit {0}
Visible (b ∷ bs) = (33 ≤ b) × (b ≤ 126) × Visible bs

abbrev pub all_visible : List ℕ → Bool
all_visible [] = true
all_visible (b ∷ bs) = leb 33 b && leb b 126 && all_visible bs

three-true : (x y z : Bool) → (x && y && z) ≡ true → (x ≡ true) × (y ≡ true) × (z ≡ true)
three-true true true z h = (refl, refl, h)
three-true true false z h = cc
three-true false y z h = cc

-- a word that is written out
pub seen : (bs : List ℕ) → all_visible bs ≡ true → Visible bs
seen [] h = tt
seen (b ∷ bs) h =
    let three = three-true (leb 33 b) (leb b 126) (all_visible bs) h in
    let low = three.0 in let high = three.1 in
    (grind (arith, nat_tests), grind (arith, nat_tests), seen bs three.2)

abbrev pub AllVisible : List (List ℕ) → Type 0
AllVisible [] = Unit {0}
AllVisible (w ∷ ws) = Visible w × AllVisible ws

pub visible-digits : (ds : List ℕ) → Digits ds → Visible ds
visible-digits [] h = tt
visible-digits (d ∷ ds) h =
    let low = h.0.0 in let high = h.0.1 in (omega arith, omega arith, visible-digits ds h.1)

pub visible-decimal : (n : ℕ) → n < 2 ^ 64 → Visible (decimal n)
visible-decimal n lt = visible-digits (decimal n) (digits-decimal n lt).0

visible-lacks : (b : ℕ) (bs : List ℕ) → b < 33 → Visible bs → Lacks b bs
visible-lacks b [] lt h = tt
visible-lacks b (x ∷ xs) lt h = let low = h.0 in (omega arith, visible-lacks b xs lt h.2)

visible-good : (b : ℕ) → 32 ≤ b → b ≤ 126 → (ltb b 32 || ltb 126 b) ≡ false
visible-good b low high = grind (arith, nat_tests)

good-before : (bs rest : List ℕ) → Visible bs → any_bad rest ≡ false → any_bad (bs ++ rest) ≡ false
good-before [] rest h g = g
good-before (x ∷ xs) rest h g =
    let low = h.0 in let high = h.1 in
    let here = visible-good x (omega arith) (omega arith) in rw here (good-before xs rest h.2 g)

lacks-before : (b : ℕ) (bs rest : List ℕ) → Lacks b bs → Lacks b rest → Lacks b (bs ++ rest)
lacks-before b [] rest h g = g
lacks-before b (x ∷ xs) rest h g = (h.0, lacks-before b xs rest h.1 g)

good-alone : (bs : List ℕ) → Visible bs → any_bad bs ≡ false
good-alone [] h = refl
good-alone (x ∷ xs) h =
    let low = h.0 in let high = h.1 in
    let here = visible-good x (omega arith) (omega arith) in rw here (good-alone xs h.2)

space-good : (rest : List ℕ) → any_bad rest ≡ false → any_bad (32 ∷ rest) ≡ false
space-good rest g = g

pub joined-good : (ws : List (List ℕ)) → AllVisible ws → any_bad (joined ws) ≡ false
joined-good [] h = refl
joined-good (w ∷ []) h = good-alone w h.0
joined-good (w ∷ v ∷ ws) h =
    good-before w (32 ∷ joined (v ∷ ws)) h.0 (space-good (joined (v ∷ ws)) (joined-good (v ∷ ws) h.1))

pub joined-lacks : (ws : List (List ℕ)) → AllVisible ws → Lacks 10 (joined ws)
joined-lacks [] h = tt
joined-lacks (w ∷ []) h = visible-lacks 10 w (omega arith) h.0
joined-lacks (w ∷ v ∷ ws) h =
    lacks-before 10 w (32 ∷ joined (v ∷ ws)) (visible-lacks 10 w (omega arith) h.0) (omega arith, joined-lacks (v ∷ ws) h.1)

-- words that are joined are the words of the line
pub words_of-joined : (w : List ℕ) (ws : List (List ℕ)) → AllVisible (w ∷ ws) → words_of (joined (w ∷ ws)) ≡ w ∷ ws
words_of-joined w [] h = words_of-one w (visible-lacks 32 w (omega arith) h.0)
words_of-joined w (v ∷ ws) h =
    words_of-first w (joined (v ∷ ws)) (visible-lacks 32 w (omega arith) h.0) ∙ ap (λ t. w ∷ t) (words_of-joined v ws h.1)

-- words and lines, put together again

joined-letter : (b : ℕ) (w : List ℕ) (ws : List (List ℕ)) → joined ((b ∷ w) ∷ ws) ≡ b ∷ joined (w ∷ ws)
joined-letter b w [] = refl
joined-letter b w (v ∷ ws) = refl

same-byte : (b c : ℕ) → (b == c) ≡ true → b ≡ c
same-byte b c e = grind (arith, nat_tests)

joined-by : (b : ℕ) (bs w : List ℕ) (ws : List (List ℕ)) (t : Bool) → (t ≡ true → b ≡ 32) → words_of bs ≡ w ∷ ws → joined (words_of bs) ≡ bs → joined (if t then [] ∷ words_of bs else with_letter b (words_of bs)) ≡ b ∷ bs
joined-by b bs w ws true space is whole =
    let e = space refl in
    ap (λ x. joined ([] ∷ x)) is ∙ (ap (λ x. 32 ∷ joined x) (sym is) ∙ (ap (λ x. 32 ∷ x) whole ∙ ap (λ x. x ∷ bs) (sym e)))
joined-by b bs w ws false space is whole =
    ap (λ x. joined (with_letter b x)) is ∙ (joined-letter b w ws ∙ (ap (λ x. b ∷ joined x) (sym is) ∙ ap (λ x. b ∷ x) whole))

pub joined-words_of : (bs : List ℕ) → joined (words_of bs) ≡ bs
joined-words_of [] = refl
joined-words_of (b ∷ bs) =
    let some = words_of-some bs in joined-by b bs some.0 some.1 (b == 32) (same-byte b 32) some.2 (joined-words_of bs)

abbrev pub end_of : Bool → List ℕ
end_of true = 10 ∷ []
end_of false = []

abbrev pub unlines : List Line → List ℕ
unlines [] = []
unlines (l ∷ ls) = l.bytes ++ (end_of l.ended ++ unlines ls)

unlines-byte : (b : ℕ) (ls : List Line) → unlines (with_byte b ls) ≡ b ∷ unlines ls
unlines-byte b [] = refl
unlines-byte b (l ∷ ls) = refl

unlines-by : (b : ℕ) (bs : List ℕ) (t : Bool) → (t ≡ true → b ≡ 10) → unlines (lines_of bs) ≡ bs → unlines (if t then record { bytes = []; ended = true } ∷ lines_of bs else with_byte b (lines_of bs)) ≡ b ∷ bs
unlines-by b bs true end whole = let e = end refl in ap (λ x. 10 ∷ x) whole ∙ ap (λ x. x ∷ bs) (sym e)
unlines-by b bs false end whole = unlines-byte b (lines_of bs) ∙ ap (λ x. b ∷ x) whole

pub unlines-lines_of : (bs : List ℕ) → unlines (lines_of bs) ≡ bs
unlines-lines_of [] = refl
unlines-lines_of (b ∷ bs) = unlines-by b bs (b == 10) (same-byte b 10) (unlines-lines_of bs)
