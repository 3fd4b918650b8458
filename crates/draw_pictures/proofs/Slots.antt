-- The slots of a page, one after the other.
use Rattle.std.proofs.Common.{ℕ, zero, suc, ◌≡◌, ◌<◌, ◌≤◌, ◌+◌, ◌-◌, List, [], ◌∷◌, ◌++◌, length, refl, sym, ap, ◌∙◌, arith, append_assoc}
use Rattle.std.specs.Prelude.{map, drop, slice_set, slice_index_or}
use Rattle.draw_pictures.specs.declared.row.Row.{Row}
use Rattle.draw_pictures.specs.declared.standing.Slot.{Slot}
use Rattle.draw_pictures.specs.Shapes.{Box, box_of, boxes_of}
use Rattle.draw_pictures.specs.Standing.{Standing, after_row, in_lane, of_lanes, standing_of}

-- the first of them after the row, the others before it
abbrev pub after_first : Box → ℕ → List Standing → List Standing
after_first b zero ss = ss
after_first b (suc i) [] = []
after_first b (suc i) (s ∷ ss) = after_row b s ∷ after_first b i ss

abbrev first-of : List Standing → Standing → Standing
first-of [] d = d
first-of (s ∷ ss) d = s

abbrev rest-of : List Standing → List Standing
rest-of [] = []
rest-of (s ∷ ss) = ss

pub after-more : (b : Box) (i : ℕ) (xs : List Slot) (ys : List Standing) (d y : Slot) → i < length xs → map standing_of xs ≡ after_first b i ys
    → standing_of y ≡ after_row b (standing_of (slice_index_or xs i d)) → map standing_of (slice_set xs i y) ≡ after_first b (suc i) ys
after-more b i [] ys d y lt is at = absurd (omega arith)
after-more b zero (x ∷ xs) [] d y lt is at = absurd cc
after-more b zero (x ∷ xs) (s ∷ ss) d y lt is at =
    let head : standing_of x ≡ s = ap (λ (l : List Standing). first-of l s) is in
    let tail : map standing_of xs ≡ ss = ap rest-of is in
    let now : standing_of y ≡ after_row b s = at ∙ ap (after_row b) head in
    cc
after-more b (suc i) (x ∷ xs) [] d y lt is at = absurd cc
after-more b (suc i) (x ∷ xs) (s ∷ ss) d y lt is at =
    let head : standing_of x ≡ after_row b s = ap (λ (l : List Standing). first-of l (after_row b s)) is in
    let more = after-more b i xs ss d y (omega arith) (ap rest-of is) at in
    cc

pub after-all : (b : Box) (i : ℕ) (ss : List Standing) → length ss ≤ i → after_first b i ss ≡ map (after_row b) ss
after-all b zero [] le = refl
after-all b zero (s ∷ ss) le = absurd (omega arith)
after-all b (suc i) [] le = refl
after-all b (suc i) (s ∷ ss) le = ap (λ l. after_row b s ∷ l) (after-all b i ss (omega arith))

pub lanes-more : (lane : ℕ) → lane < 32 → of_lanes lane (32 - lane) ≡ in_lane lane ++ of_lanes (lane + 1) (32 - (lane + 1))
lanes-more lane lt = let e : 32 - lane ≡ suc (32 - (lane + 1)) = omega arith in ap (of_lanes lane) e

pub boxes-append : (xs ys : List Row) → boxes_of (xs ++ ys) ≡ boxes_of xs ++ boxes_of ys
boxes-append [] ys = refl
boxes-append (x ∷ xs) ys = ap (λ l. box_of x ∷ l) (boxes-append xs ys)

-- the rows so far and those that are left
pub rows-step : (before after own : List Row) (i : ℕ) (row : Row) → drop i own ≡ row ∷ drop (i + 1) own → after ≡ before ++ row ∷ []
    → boxes_of after ++ boxes_of (drop (i + 1) own) ≡ boxes_of before ++ boxes_of (drop i own)
rows-step before after own i row cut is =
    ap (λ l. boxes_of l ++ boxes_of (drop (i + 1) own)) is
    ∙ (ap (λ l. l ++ boxes_of (drop (i + 1) own)) (boxes-append before (row ∷ []))
    ∙ (append_assoc (boxes_of before) (box_of row ∷ []) (boxes_of (drop (i + 1) own))
    ∙ ap (λ l. boxes_of before ++ boxes_of l) (sym cut)))
