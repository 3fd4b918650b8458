-- What is so of every part, and of every box's words.
use Rattle.std.proofs.Common.{ℕ, zero, suc, ◌≡◌, ◌≤◌, ◌+◌, ◌-◌, List, [], ◌∷◌, ◌++◌, length, Bool, true, false, refl, ap, ◌∙◌, arith, length-append}
use Rattle.std.specs.Prelude.{map, min, ltb, ◌==◌, ◌||◌, if◌then◌else◌, Option, Some, None, codes}
use Rattle.std.proofs.lemmas.List.{length-map}
use Rattle.draw_pictures.specs.declared.shown.TheConstants.{MOST_SHOWN}
use Rattle.draw_pictures.specs.declared.style.TheConstants.{TIP}
use Rattle.draw_pictures.specs.Parts.{is_shown, rows_before, FewStand, WholeHasAll}
use Rattle.std.specs.List.{filter}
use Rattle.draw_pictures.specs.Shapes.{Box}
use Rattle.draw_pictures.specs.Shown.{digits_at, is_digit, next_before, shown, shown_byte, shown_digit, shown_other, WordsFit}
use Rattle.draw_pictures.specs.Standing.{Standing, after_row, none_stand, row_in, standing_rows, stood}
use Rattle.draw_pictures.proofs.Boxes.{some-left}

-- the parts

pub whole-has-all : WholeHasAll
whole-has-all [] = refl
whole-has-all (b ∷ bs) = ap (λ l. b ∷ l) (whole-has-all bs)

in-row : (o : Option Box) → length (row_in o) ≤ 1
in-row None = omega arith
in-row (Some b) = omega arith

standing-few : (ss : List Standing) → length (standing_rows ss) ≤ length ss
standing-few [] = omega arith
standing-few (s ∷ ss) =
    let one = in-row s.row in
    let rest = standing-few ss in
    let both = length-append (row_in s.row) (standing_rows ss) in
    omega (arith, one, rest, both)

stood-same : (ss : List Standing) (bs : List Box) → length (stood ss bs) ≡ length ss
stood-same ss [] = refl
stood-same ss (b ∷ bs) = stood-same (map (after_row b) ss) bs ∙ length-map ss (after_row b)

kept-by : (k : Bool) (p : Box → Bool) (b : Box) (bs : List Box) → length (filter p bs) ≤ length bs → length (if k then b ∷ filter p bs else filter p bs) ≤ length (b ∷ bs)
kept-by true p b bs le = omega (arith, le)
kept-by false p b bs le = omega (arith, le)

kept-few : (p : Box → Bool) (bs : List Box) → length (filter p bs) ≤ length bs
kept-few p [] = omega arith
kept-few p (b ∷ bs) = let rest = kept-few p bs in kept-by (p b) p b bs rest

pub few-stand : FewStand
few-stand part rows =
    let ss : List Standing = stood none_stand (rows_before part rows) in
    let shown = kept-few (is_shown part) (standing_rows ss) in
    let few = standing-few ss in
    let same : length ss ≡ 97 = stood-same none_stand (rows_before part rows) in
    omega (arith, shown, few, same)

-- the words

no-longer : (p : Bool) (xs ys : List ℕ) (n : ℕ) → length xs ≤ n → length ys ≤ n → length (if p then xs else ys) ≤ n
no-longer true xs ys n e f = e
no-longer false xs ys n e f = f

piece-fits : (before after b : ℕ) → length (shown_byte before after b) ≤ 3
unfolding shown_byte
piece-fits before after b =
    let one : length (b ∷ []) ≤ 3 = omega arith in
    let none : length (let bytes : List ℕ = [] in bytes) ≤ 3 = omega arith in
    no-longer (is_digit b) (shown_digit before after b) (shown_other b) 3
    (no-longer (ltb (before + after) 8 || (ltb before 3 || ltb after 3)) (b ∷ []) (if before == 3 then codes ".." else []) 3 one
    (no-longer (before == 3) (codes "..") [] 3 (omega arith) none))
    (no-longer (b == 226) TIP.now (if ltb b 128 then b ∷ [] else []) 3 (omega arith) (no-longer (ltb b 128) (b ∷ []) [] 3 one none))

shown-fits : (room before : ℕ) (bs : List ℕ) → length (shown room before bs) ≤ room + 2 + (min room 1 + min room 1)
shown-fits room before [] = omega arith
shown-fits zero before (b ∷ bs) = omega arith
shown-fits (suc room) before (b ∷ bs) =
    let piece : List ℕ = shown_byte before (digits_at bs) b in
    let rest : List ℕ = shown (suc room - length piece) (next_before before b) bs in
    let small = piece-fits before (digits_at bs) b in
    let more = shown-fits (suc room - length piece) (next_before before b) bs in
    let both = length-append piece rest in
    let fits : length (piece ++ rest) ≤ suc room + 2 + (min (suc room) 1 + min (suc room) 1) = omega (arith, small, more, both) in
    rw (some-left room) fits

pub words-fit : WordsFit
words-fit words = let fits = shown-fits MOST_SHOWN 0 words in omega (arith, fits)
