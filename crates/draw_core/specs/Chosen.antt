-- WHAT THE WORDS NAME that name a part of a trace: `A..B` its lines, `N,N..` its callers.
use Rattle.std.specs.Prelude.{ℕ, ◌==◌, leb, ltb, ◌||◌, false, List, [], ◌∷◌, if◌then◌else◌, Option, Some, None, replicate}
use Rattle.work_text.specs.Lines.{number_of, with_letter}
use Rattle.work_check.specs.Grammar.{◌>>=◌}
use Rattle.draw_pictures.specs.declared.part.Callers.{Callers}
use Rattle.draw_pictures.specs.declared.part.Lines.{Lines}
use Rattle.draw_pictures.specs.Parts.{with_lane}

-- two numbers, the first of them 1 at least, and the second not below it
abbrev pub in_order : ℕ → ℕ → Option Lines
in_order first last = if ltb first 1 || ltb last first then None else Some (record { first = first; last = last })

abbrev pub between : List ℕ → List ℕ → Option Lines
between first last = number_of first >>= λ a. number_of last >>= λ b. in_order a b

-- what stands before the first byte that is the mark, and what after it
abbrev pub with_first : ℕ → Option (List ℕ × List ℕ) → Option (List ℕ × List ℕ)
with_first b None = None
with_first b (Some p) = Some (b ∷ p.0, p.1)

abbrev pub cut_at : ℕ → List ℕ → Option (List ℕ × List ℕ)
cut_at mark [] = None
cut_at mark (b ∷ bs) = if b == mark then Some ([], bs) else with_first b (cut_at mark bs)

-- A..B: another dot follows the first one
abbrev pub dotted : List ℕ → List ℕ → Option Lines
dotted first [] = None
dotted first (b ∷ rest) = if b == 46 then between first rest else None

abbrev pub lines_in : List ℕ → Option Lines
lines_in word = cut_at 46 word >>= λ p. dotted p.0 p.1

-- the words that this byte parts
abbrev pub parted_by : ℕ → List ℕ → List (List ℕ)
parted_by mark [] = [] ∷ []
parted_by mark (b ∷ bs) = if b == mark then [] ∷ parted_by mark bs else with_letter b (parted_by mark bs)

-- a caller's number
abbrev pub with_word : Callers → List ℕ → Option Callers
with_word cs word = number_of word >>= λ n. if leb 32 n then None else Some (with_lane cs n)

abbrev pub with_words : Callers → List (List ℕ) → Option Callers
with_words cs [] = Some cs
with_words cs (word ∷ words) = with_word cs word >>= λ more. with_words more words

-- N,N..: each of the words that commas part is a caller's number
abbrev pub callers_in : List ℕ → Option Callers
callers_in word = with_words (record { chosen = replicate 32 false }) (parted_by 44 word)
