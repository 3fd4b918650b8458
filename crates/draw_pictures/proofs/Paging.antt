-- A page, row by row.
use Rattle.std.proofs.Common.{◌≡◌, List, [], ◌∷◌, ◌++◌, refl, ap}
use Rattle.std.specs.Prelude.{map, Option, Some, None}
use Rattle.draw_pictures.specs.declared.row.Row.{Row}
use Rattle.draw_pictures.specs.Shapes.{Box}
use Rattle.draw_pictures.specs.Rows.{joined, pushed, rows_from, rows_of}
use Rattle.draw_pictures.specs.Standing.{Standing, after_row, stood}

pub stood-more : (ss : List Standing) (bs : List Box) (b : Box) → stood ss (bs ++ b ∷ []) ≡ map (after_row b) (stood ss bs)
stood-more ss [] b = refl
stood-more ss (c ∷ bs) b = stood-more (map (after_row c) ss) bs b

rows-more : (rows bs : List Box) (b : Box) → rows_from rows (bs ++ b ∷ []) ≡ pushed (rows_from rows bs) b
rows-more rows [] b = refl
rows-more rows (c ∷ bs) b = rows-more (pushed rows c) bs b

pub rows_of-more : (bs : List Box) (b : Box) → rows_of (bs ++ b ∷ []) ≡ pushed (rows_of bs) b
rows_of-more bs b = rows-more [] bs b

pub pushed-last : (rows : List Box) (r b : Box) → pushed (rows ++ r ∷ []) b ≡ rows ++ joined r b
pushed-last [] r b = refl
pushed-last (s ∷ []) r b = refl
pushed-last (s ∷ t ∷ rows) r b = ap (λ l. s ∷ l) (pushed-last (t ∷ rows) r b)

some-of : Option Row → Row → Row
some-of None d = d
some-of (Some row) d = row

pub row-is : (a b : Row) → Some a ≡ Some b → a ≡ b
unfolding some-of
row-is a b e = ap (λ o. some-of o a) e

pub none-is : (o : Option Row) → ((row : Row) → o ≡ Some row → ⊥) → o ≡ None
none-is None h = refl
none-is (Some row) h = absurd (h row refl)
