-- A text that goes on after its first line `done`.
use Rattle.std.specs.Prelude.{ℕ, ◌≡◌, ◌≢◌, ◌⊎◌, true, List, [], ◌∷◌, ◌++◌, ◌==◌, All, length, if◌then◌else◌, codes, bytes_eq}
use Rattle.work_text.specs.Lines.{Line, lines_of}

-- the bytes up to and with the first line `done`, and those after it; `line` is what the line has had before them
abbrev pub parted_by : List ℕ → List ℕ → List ℕ × List ℕ
parted_by line [] = ([], [])
parted_by line (b ∷ bs) =
    if b == 10
    then (if bytes_eq line (codes "done") then (b ∷ [], bs) else (b ∷ (parted_by [] bs).0, (parted_by [] bs).1))
    else (b ∷ (parted_by (line ++ b ∷ []) bs).0, (parted_by (line ++ b ∷ []) bs).1)

-- the text up to and with its first line `done`: all of it, where it has none
abbrev pub to_done : List ℕ → List ℕ
to_done text = (parted_by [] text).0

-- the text after that line
abbrev pub after_done : List ℕ → List ℕ
after_done text = (parted_by [] text).1

-- how many lines there are up to and with that line
abbrev pub lines_to_done : List ℕ → ℕ
lines_to_done text = length (lines_of (to_done text))

abbrev pub done_line : Line
done_line = record { bytes = codes "done"; ended = true }

-- a text in two: the first ends with the one line `done` that it has, or it has none and is the whole
pub record IsParted (text head rest : List ℕ) : Type 0 where
  pub whole : text ≡ head ++ rest
  pub before : List Line
  pub none : All (λ l. l ≢ done_line) before
  pub ends : (lines_of head ≡ before ++ done_line ∷ []) ⊎ ((lines_of head ≡ before) × (rest ≡ []))

-- that is how a text is parted
abbrev pub TextIsParted : Type 0
TextIsParted = (text : List ℕ) → IsParted text (to_done text) (after_done text)
