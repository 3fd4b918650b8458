-- THE ROWS OF A PICTURE: a box for each line of the trace, but one for idle turns of a caller that follow each other.
use Rattle.std.specs.Prelude.{◌+◌, ◌==◌, Bool, ◌&&◌, if◌then◌else◌, List, [], ◌∷◌}
use Rattle.draw_pictures.specs.Kinds.{is_idle}
use Rattle.draw_pictures.specs.Shapes.{Box}

-- a line joins the row above it
abbrev pub joins : Box → Box → Bool
joins above b = is_idle above.kind && (is_idle b.kind && (above.lane == b.lane))

abbrev pub joined : Box → Box → List Box
joined above b = if joins above b then record above { times = above.times + 1 } ∷ [] else above ∷ b ∷ []

-- one line more
abbrev pub pushed : List Box → Box → List Box
pushed [] b = b ∷ []
pushed (r ∷ []) b = joined r b
pushed (r ∷ s ∷ rs) b = r ∷ pushed (s ∷ rs) b

-- the rows so far, and those of these lines
abbrev pub rows_from : List Box → List Box → List Box
rows_from rows [] = rows
rows_from rows (b ∷ bs) = rows_from (pushed rows b) bs

abbrev pub rows_of : List Box → List Box
rows_of bs = rows_from [] bs
