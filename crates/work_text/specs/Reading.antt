-- A text, read word by word: where a word ends, and what the first line gives.
use Rattle.std.specs.Prelude.{ℕ, ◌≡◌, ◌≢◌, ◌<◌, ◌+◌, Bool, true, ◌&&◌, ◌||◌, List, [], ◌∷◌, length, drop, leb, ltb, ◌==◌, if◌then◌else◌, Result, Err}
use Rattle.work_text.specs.declared.code.TheConstants.{BYTES, UNENDED}
use Rattle.work_text.specs.declared.draft.Step.{Step}
use Rattle.work_text.specs.declared.lines.End.{End}
use Rattle.work_text.specs.declared.lines.End.TheVariants as ends
use Rattle.work_text.specs.Lines.{Line, lines_of, words_of, any_bad}

-- a byte that may stand in a word
abbrev pub is_visible : ℕ → Bool
is_visible b = leb 33 b && leb b 126

-- what another byte is the end of a word as
abbrev pub end_of : ℕ → End
end_of b = if b == 32 then ends.Space else (if b == 10 then ends.Line else ends.Bad)

-- the byte at i is this one
abbrev pub IsAt : ℕ → ℕ → List ℕ → Type 0
IsAt b i s = (i < length s) × (drop i s ≡ b ∷ drop (i + 1) s)

-- what stands at i ends a word so
abbrev pub EndsBy : End → ℕ → List ℕ → Type 0
EndsBy ends.Space i s = IsAt 32 i s
EndsBy ends.Line i s = IsAt 10 i s
EndsBy ends.Bad i s = (b : ℕ) × ((ltb b 32 || ltb 126 b) ≡ true) × (b ≢ 10) × IsAt b i s
EndsBy ends.Text i s = drop i s ≡ []

-- what the first of these lines gives by its words, or its lowest code
abbrev pub judged : (List (List ℕ) → Result Step ℕ) → List Line → Result Step ℕ
judged by [] = Err UNENDED
judged by (l ∷ ls) = if any_bad l.bytes then Err BYTES else (if l.ended then by (words_of l.bytes) else Err UNENDED)

-- the lines after the first
abbrev pub behind : List Line → List Line
behind [] = []
behind (l ∷ ls) = ls

-- the rest is what stands after the first line of a text
abbrev pub Leaves : List ℕ → List ℕ → Type 0
Leaves text rest = (behind (lines_of text) ≡ lines_of rest) × (length rest < length text)
