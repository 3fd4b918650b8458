-- Laws of lines and words.
use Rattle.std.proofs.Common.{ℕ, ◌≡◌, ◌≢◌, List, [], ◌∷◌, ◌++◌, Bool, true, false, refl, sym, ap, ◌∙◌, arith, take, drop}
use Rattle.std.specs.Prelude.{◌==◌, if◌then◌else◌}
use Rattle.std.proofs.lemmas.Bool.Decides.{nat_tests}
use Rattle.std.proofs.lemmas.List.{take-append-drop}
use Rattle.work_text.specs.Lines.{lines_of, with_letter, words_of, Lacks}

differs : (x b : ℕ) → x ≢ b → (x == b) ≡ false
differs x b n = grind (arith, nat_tests)

-- the first line of a text
pub lines_of-first : (xs rest : List ℕ) → Lacks 10 xs → lines_of (xs ++ 10 ∷ rest) ≡ record { bytes = xs; ended = true } ∷ lines_of rest
lines_of-first [] rest h = refl
lines_of-first (x ∷ xs) rest h = let no = differs x 10 h.0 in rw (no, lines_of-first xs rest h.1)

-- the last line, where no LF ends it
pub lines_of-last : (x : ℕ) (xs : List ℕ) → Lacks 10 (x ∷ xs) → lines_of (x ∷ xs) ≡ record { bytes = x ∷ xs; ended = false } ∷ []
lines_of-last x [] h = let no = differs x 10 h.0 in rw no
lines_of-last x (y ∷ xs) h = let no = differs x 10 h.0 in rw (no, lines_of-last y xs h.1)

-- one word alone
pub words_of-one : (xs : List ℕ) → Lacks 32 xs → words_of xs ≡ xs ∷ []
words_of-one [] h = refl
words_of-one (x ∷ xs) h = let no = differs x 32 h.0 in rw (no, words_of-one xs h.1)

-- the first word of a line
pub words_of-first : (xs rest : List ℕ) → Lacks 32 xs → words_of (xs ++ 32 ∷ rest) ≡ xs ∷ words_of rest
words_of-first [] rest h = refl
words_of-first (x ∷ xs) rest h = let no = differs x 32 h.0 in rw (no, words_of-first xs rest h.1)

pub lacks-snoc : (b x : ℕ) (xs : List ℕ) → Lacks b xs → x ≢ b → Lacks b (xs ++ x ∷ [])
lacks-snoc b x [] h n = (n, tt)
lacks-snoc b x (y ∷ xs) h n = (h.0, lacks-snoc b x xs h.1 n)

-- a list, cut at a place
pub cut-at : (i : ℕ) (bs : List ℕ) (b : ℕ) (r : List ℕ) → drop i bs ≡ b ∷ r → bs ≡ take i bs ++ b ∷ r
cut-at i bs b r h = sym (take-append-drop i bs) ∙ ap (λ t. take i bs ++ t) h

-- a line cut at its first space
pub words_of-cut : (bs : List ℕ) (i : ℕ) (r : List ℕ) → Lacks 32 (take i bs) → drop i bs ≡ 32 ∷ r → words_of bs ≡ take i bs ∷ words_of r
words_of-cut bs i r h at = ap words_of (cut-at i bs 32 r at) ∙ words_of-first (take i bs) r h

some-word : (x : ℕ) (l : List (List ℕ)) (w : List ℕ) (ws : List (List ℕ)) → l ≡ w ∷ ws → with_letter x l ≡ (x ∷ w) ∷ ws
some-word x l w ws h = ap (with_letter x) h

some-by : (x : ℕ) (xs : List ℕ) (b : Bool) → (w : List ℕ) × (ws : List (List ℕ)) × (words_of xs ≡ w ∷ ws)
    → (w : List ℕ) × (ws : List (List ℕ)) × ((if b then [] ∷ words_of xs else with_letter x (words_of xs)) ≡ w ∷ ws)
some-by x xs true h = ([], words_of xs, refl)
some-by x xs false h = (x ∷ h.0, h.1, some-word x (words_of xs) h.0 h.1 h.2)

-- each line has a word, which may be empty
pub words_of-some : (xs : List ℕ) → (w : List ℕ) × (ws : List (List ℕ)) × (words_of xs ≡ w ∷ ws)
words_of-some [] = ([], [], refl)
words_of-some (x ∷ xs) = some-by x xs (x == 32) (words_of-some xs)
