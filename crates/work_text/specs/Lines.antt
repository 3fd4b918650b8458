-- Lines of a text, words of a line, numbers.
use Rattle.std.specs.Prelude.{ℕ, ◌≢◌, ◌≢◌, ◌+◌, ◌-◌, ◌*◌, ◌^◌, Bool, true, false, ◌&&◌, ◌||◌, List, [], ◌∷◌, leb, ltb, ◌==◌, if◌then◌else◌, Option, Some, None}

-- a line, and whether an LF ended it
pub record Line : Type 0 where
  pub bytes : List ℕ
  pub ended : Bool

-- the lines, with one more byte at the start of the first
abbrev pub with_byte : ℕ → List Line → List Line
with_byte b [] = record { bytes = b ∷ []; ended = false } ∷ []
with_byte b (l ∷ ls) = record { bytes = b ∷ l.bytes; ended = l.ended } ∷ ls

-- the lines of a text: each LF ends one
abbrev pub lines_of : List ℕ → List Line
lines_of [] = []
lines_of (b ∷ bs) = if b == 10 then record { bytes = []; ended = true } ∷ lines_of bs else with_byte b (lines_of bs)

-- the words, with one more byte at the start of the first
abbrev pub with_letter : ℕ → List (List ℕ) → List (List ℕ)
with_letter b [] = (b ∷ []) ∷ []
with_letter b (w ∷ ws) = (b ∷ w) ∷ ws

-- the words of a line: each space parts two, so a double space has an empty word between
abbrev pub words_of : List ℕ → List (List ℕ)
words_of [] = [] ∷ []
words_of (b ∷ bs) = if b == 32 then [] ∷ words_of bs else with_letter b (words_of bs)

-- some byte is outside 32 to 126
abbrev pub any_bad : List ℕ → Bool
any_bad [] = false
any_bad (b ∷ bs) = (ltb b 32 || ltb 126 b) || any_bad bs

-- the number of the digits that follow n, as far as it stays below 2^64
abbrev pub number_from : ℕ → List ℕ → Option ℕ
number_from n [] = Some n
number_from n (b ∷ bs) = if leb 48 b && leb b 57 && ltb (n * 10 + (b - 48)) (2 ^ 64) then number_from (n * 10 + (b - 48)) bs else None

-- a number: decimal, without sign and leading zeros, below 2^64
abbrev pub number_of : List ℕ → Option ℕ
number_of [] = None
number_of (b ∷ []) = number_from 0 (b ∷ [])
number_of (b ∷ c ∷ bs) = if b == 48 then None else number_from 0 (b ∷ c ∷ bs)

-- no byte is b
abbrev pub Lacks : ℕ → List ℕ → Type 0
Lacks b [] = Unit {0}
Lacks b (x ∷ xs) = (x ≢ b) × Lacks b xs
