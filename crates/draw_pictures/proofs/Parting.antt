-- A part, row by row.
use Rattle.std.proofs.Common.{ℕ, zero, suc, ◌≡◌, ◌+◌, ◌-◌, List, [], ◌∷◌, ◌++◌, drop, Bool, true, false, refl, sym, ap, ◌∙◌, arith, append_assoc, append-nil}
use Rattle.std.specs.Prelude.{leb, ltb, ◌&&◌, if◌then◌else◌, slice_index_or, Option, Some, None}
use Rattle.std.specs.List.{filter}
use Rattle.std.proofs.lemmas.Bool.Decides.{nat_tests}
use Rattle.std.proofs.lemmas.List.Elements.{filter-append}
use Rattle.draw_pictures.specs.declared.part.Lines.{Lines}
use Rattle.draw_pictures.specs.declared.part.Part.{Part}
use Rattle.draw_pictures.specs.declared.part.TheConstants.{MOST_BOXES}
use Rattle.draw_pictures.specs.declared.row.Row.{Row}
use Rattle.draw_pictures.specs.Parts.{below, counted, is_before, is_of, is_own, is_within, keeps}
use Rattle.draw_pictures.specs.Shapes.{Box, box_of, boxes_of}
use Rattle.draw_pictures.proofs.Slots.{boxes-append}

-- one more

pub kept-one : (p : Box → Bool) (bs : List Box) (b : Box) → p b ≡ true → filter p (bs ++ b ∷ []) ≡ filter p bs ++ b ∷ []
kept-one p bs b is = filter-append p bs (b ∷ []) ∙ ap (λ l. filter p bs ++ l) (rw is refl)

pub left-out : (p : Box → Bool) (bs : List Box) (b : Box) → p b ≡ false → filter p (bs ++ b ∷ []) ≡ filter p bs
left-out p bs b is = filter-append p bs (b ∷ []) ∙ (ap (λ l. filter p bs ++ l) (rw is refl) ∙ append-nil (filter p bs))

-- a row before the part is none of its own, and one of its own isn't before it

and-false : (p q : Bool) → p ≡ false → (p && q) ≡ false
and-false p q e = rw e refl

before-out : (r : Option Lines) (n : ℕ) → is_before r n ≡ true → is_within r n ≡ false
before-out None n e = absurd cc
before-out (Some r) n e = let t : leb r.first n ≡ false = grind (arith, nat_tests) in and-false (leb r.first n) (leb n r.last) t

pub before-is-not-own : (part : Part) (b : Box) → is_before part.lines b.number ≡ true → is_own part b ≡ false
before-is-not-own part b e = and-false (is_within part.lines b.number) (is_of part.callers b) (before-out part.lines b.number e)

-- so many rows are kept only if one fewer are

pub kept-before : (r : Option Lines) (n : ℕ) → keeps r (n + 1) ≡ true → keeps r n ≡ true
kept-before None n e = let t : leb n MOST_BOXES ≡ true = grind (arith, nat_tests) in t
kept-before (Some r) n e = refl

-- a caller more

below-none : (bs : List Bool) → below bs 0 ≡ 0
below-none [] = refl
below-none (b ∷ bs) = refl

below-by : (b : Bool) (rest : List Bool) (i n m : ℕ) → n - i ≡ m → below (b ∷ rest) m ≡ counted b i n + below rest (n - (i + 1))
below-by b rest i n zero e =
    let t : ltb i n ≡ false = grind (arith, nat_tests) in
    let none : n - (i + 1) ≡ 0 = omega (arith, e) in
    sym (ap (λ k. counted b i n + below rest k) none ∙ (ap (λ k. counted b i n + k) (below-none rest) ∙ (let z : counted b i n ≡ 0 = rw t refl in omega (arith, z))))
below-by b rest i n (suc m) e =
    let t : ltb i n ≡ true = grind (arith, nat_tests) in
    let one : n - (i + 1) ≡ m = omega (arith, e) in
    let same : counted b i n ≡ (if b then 1 else 0) = rw t refl in
    sym ((λ j. same j + below rest (one j)))

counted-none : (b : Bool) → (let k : ℕ = if b && false then 1 else 0 in k) ≡ 0
counted-none true = refl
counted-none false = refl

below-any : (bs : List Bool) (i n m : ℕ) → n - i ≡ m → below bs m ≡ counted (slice_index_or bs 0 false) i n + below (drop 1 bs) (n - (i + 1))
below-any [] i n m e = let z : counted false i n ≡ 0 = counted-none (ltb i n) in omega (arith, z)
below-any (b ∷ bs) i n m e = below-by b bs i n m e

at-drop : (bs : List Bool) (i : ℕ) → slice_index_or (drop i bs) 0 false ≡ slice_index_or bs i false
at-drop [] zero = refl
at-drop [] (suc i) = refl
at-drop (b ∷ bs) zero = refl
at-drop (b ∷ bs) (suc i) = at-drop bs i

drop-next : (bs : List Bool) (i : ℕ) → drop 1 (drop i bs) ≡ drop (i + 1) bs
drop-next [] zero = refl
drop-next [] (suc i) = ap (λ k. drop k (let none : List Bool = [] in none)) (let e : suc (i + 1) ≡ suc i + 1 = omega arith in e)
drop-next (b ∷ bs) zero = refl
drop-next (b ∷ bs) (suc i) = drop-next bs i ∙ ap (λ k. drop k (b ∷ bs)) (let e : suc (i + 1) ≡ suc i + 1 = omega arith in e)

pub below-step : (bs : List Bool) (i n : ℕ) → below (drop i bs) (n - i) ≡ counted (slice_index_or bs i false) i n + below (drop (i + 1) bs) (n - (i + 1))
below-step bs i n = below-any (drop i bs) i n (n - i) refl ∙ (λ j. counted (at-drop bs i j) i n + below (drop-next bs i j) (n - (i + 1)))

-- the rows so far that are shown, and those of the rows that are left
pub shown-step : (p : Box → Bool) (before after all : List Row) (i : ℕ) (row : Row) → drop i all ≡ row ∷ drop (i + 1) all → boxes_of after ≡ boxes_of before ++ filter p (box_of row ∷ [])
    → boxes_of after ++ filter p (boxes_of (drop (i + 1) all)) ≡ boxes_of before ++ filter p (boxes_of (drop i all))
shown-step p before after all i row cut is =
    let rest : List Box = boxes_of (drop (i + 1) all) in
    ap (λ l. l ++ filter p rest) is
    ∙ (append_assoc (boxes_of before) (filter p (box_of row ∷ [])) (filter p rest)
    ∙ ap (λ l. boxes_of before ++ l) (sym (filter-append p (box_of row ∷ []) rest) ∙ ap (λ (l : List Row). filter p (boxes_of l)) (sym cut)))

pub row-shown : (p : Box → Bool) (before after : List Row) (row : Row) → p (box_of row) ≡ true → after ≡ before ++ row ∷ [] → boxes_of after ≡ boxes_of before ++ filter p (box_of row ∷ [])
row-shown p before after row kept is = ap boxes_of is ∙ (boxes-append before (row ∷ []) ∙ ap (λ l. boxes_of before ++ l) (let one : box_of row ∷ [] ≡ filter p (box_of row ∷ []) = rw kept refl in one))
