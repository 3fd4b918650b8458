-- WORDS THAT FIT A BOX: of a number of more than eight digits the first three and the last three,
-- and words up to where the box ends.
use Rattle.std.specs.Prelude.{ℕ, ◌≤◌, ◌+◌, ◌-◌, ◌==◌, leb, ltb, Bool, ◌||◌, ◌&&◌, if◌then◌else◌, List, [], ◌∷◌, ◌++◌, length, codes, bytes_eq}
use Rattle.draw_pictures.specs.declared.style.TheConstants.{TIP}
use Rattle.draw_pictures.specs.declared.shown.TheConstants.{MOST_SHOWN}

abbrev pub is_digit : ℕ → Bool
is_digit b = leb 48 b && leb b 57

-- how many digits a text begins with
abbrev pub digits_at : List ℕ → ℕ
digits_at [] = 0
digits_at (b ∷ bs) = if is_digit b then digits_at bs + 1 else 0

-- a digit, which has so many of its number before it, and so many after it
abbrev pub shown_digit : ℕ → ℕ → ℕ → List ℕ
shown_digit before after b =
    if ltb (before + after) 8 || (ltb before 3 || ltb after 3) then b ∷ [] else
    (if before == 3 then codes ".." else [])

-- another byte: an arrow's first stands for it
abbrev pub shown_other : ℕ → List ℕ
shown_other b = if b == 226 then TIP.now else (if ltb b 128 then b ∷ [] else [])

unfoldable pub shown_byte : ℕ → ℕ → ℕ → List ℕ
shown_byte before after b = if is_digit b then shown_digit before after b else shown_other b

-- how many digits of a number come before the next byte
abbrev pub next_before : ℕ → ℕ → ℕ
next_before before b = if is_digit b then before + 1 else 0

-- in so much room, after so many digits of a number
abbrev pub shown : ℕ → ℕ → List ℕ → List ℕ
shown room before [] = []
shown room before (b ∷ bs) =
    if room == 0 then codes ".." else
    (shown_byte before (digits_at bs) b ++ shown (room - length (shown_byte before (digits_at bs) b)) (next_before before b) bs)

abbrev pub shown_words : List ℕ → List ℕ
shown_words words = shown MOST_SHOWN 0 words

-- words whole in a title, where not all of them are shown
abbrev pub title_bytes : List ℕ → List ℕ → List ℕ
title_bytes words shown = if bytes_eq shown words then [] else codes "<title>" ++ (words ++ codes "</title>")

abbrev pub words_bytes : List ℕ → List ℕ
words_bytes words = title_bytes words (shown_words words) ++ shown_words words

-- no box shows more than so many bytes of words
abbrev pub WordsFit : Type 0
WordsFit = (words : List ℕ) → length (shown_words words) ≤ 40
