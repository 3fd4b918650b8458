-- Words read one by one.
use Rattle.std.proofs.Common.{ℕ, ◌≡◌, ◌<◌, ◌++◌, ◌+◌, drop, arith, List, [], ◌∷◌, length, Bool, true, false, refl, sym, ap, ◌∙◌}
use Rattle.std.specs.Prelude.{Option, Some, None, if◌then◌else◌, bytes_eq, codes, ◌==◌}
use Rattle.std.proofs.lemmas.Bool.Decides.{nat_tests}
use Rattle.work_text.specs.Lines.{number_of, words_of}
use Rattle.work_text.specs.LineLaws.{words_of-some}
use Rattle.work_check.specs.Grammar.{words_left, numbers_of, outputs_of, emits_of, memory_word_of, ◌>>=◌}

-- numbers, and then those of the rest
abbrev pub behind : List ℕ → Option (List ℕ) → Option (List ℕ)
behind ns o = o >>= λ ms. Some (ns ++ ms)

abbrev pub replied : List ℕ → Option (List ℕ × List ℕ) → Option (List ℕ × List ℕ)
replied ns o = o >>= λ p. Some (ns ++ p.0, p.1)

pub replied-marked : (ns : List ℕ) (w : List ℕ) (ws : List (List ℕ)) → bytes_eq w (codes "!") ≡ true → replied ns (outputs_of (w ∷ ws)) ≡ (emits_of ws >>= λ es. Some (ns ++ [], es))
replied-marked ns w ws marked =
    ap (λ b. replied ns (if b then emits_of ws >>= (λ es. Some ([], es)) else number_of w >>= λ k. outputs_of ws >>= λ p. Some (k ∷ p.0, p.1))) marked ∙ by (emits_of ws)
  where
    by : (o : Option (List ℕ)) → replied ns (o >>= (λ es. Some ([], es))) ≡ (o >>= λ es. Some (ns ++ [], es))
    by None = refl
    by (Some es) = refl

append-nil : (xs : List ℕ) → xs ++ [] ≡ xs
append-nil [] = refl
append-nil (x ∷ xs) = ap (λ w. x ∷ w) (append-nil xs)

-- the words after a byte that stands there
pub left-first : (rest past : List ℕ) → 0 < length rest → past ≡ drop (0 + 1) rest → words_left rest ≡ words_of past
left-first [] past lt is = absurd (omega arith)
left-first (b ∷ bs) past lt is = ap words_of (sym is)

-- after a space there is a word
some-emits : (bytes : List ℕ) → emits_of (words_of bytes) ≡ numbers_of (words_of bytes)
some-emits bytes = let w = words_of-some bytes in ap emits_of w.2 ∙ ap numbers_of (sym w.2)

pub left-emits : (rest : List ℕ) → 0 < length rest → emits_of (words_left rest) ≡ numbers_of (words_left rest)
left-emits [] lt = absurd (omega arith)
left-emits (b ∷ bs) lt = some-emits bs

pub marked-some : (ns : List ℕ) (w rest es : List ℕ) → bytes_eq w (codes "!") ≡ true → 0 < length rest → numbers_of (words_left rest) ≡ Some es → replied ns (outputs_of (w ∷ words_left rest)) ≡ Some (ns, es)
marked-some ns w rest es marked lt is =
    replied-marked ns w (words_left rest) marked ∙ (ap (λ o. o >>= λ (x : List ℕ). Some (ns ++ [], x)) (left-emits rest lt ∙ is) ∙ ap (λ l. let o : Option (List ℕ × List ℕ) = Some (l, es) in o) (append-nil ns))

pub not-empty : (n : ℕ) (b : Bool) → b ≡ (n == 0) → b ≡ false → 0 < n
not-empty n b is none = let e : (n == 0) ≡ false = sym is ∙ none in grind (arith, nat_tests)

-- a word too many
long-by : (m a v bytes : List ℕ) → memory_word_of (m ∷ a ∷ v ∷ words_of bytes) ≡ None
long-by m a v bytes = let w = words_of-some bytes in ap (λ ws. memory_word_of (m ∷ a ∷ v ∷ ws)) w.2

pub long-word : (m a v rest : List ℕ) → 0 < length rest → memory_word_of (m ∷ a ∷ v ∷ words_left rest) ≡ None
long-word m a v [] lt = absurd (omega arith)
long-word m a v (b ∷ bs) lt = long-by m a v bs
