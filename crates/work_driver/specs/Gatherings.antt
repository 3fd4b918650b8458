-- The rows of all workers in one list.
use Rattle.std.specs.Prelude.{ℕ, ◌≡◌, ◌<◌, List, [], ◌∷◌, ◌++◌, length, slice_index_or, IsPermutation}
use Rattle.work_script.specs.declared.report.Row.{Row}

-- one list after the other
abbrev pub joined : List (List Row) → List Row
joined [] = []
joined (l ∷ ls) = l ++ joined ls

-- list n has a row
abbrev pub HasRow : List (List Row) → ℕ → Type 0
HasRow ls n = (n < length ls) × (0 < length (slice_index_or ls n []))

-- the last row of one list went to the end of the other
pub record MovesLast (from left to more : List Row) : Type 0 where
  pub row : Row
  pub gone : from ≡ left ++ row ∷ []
  pub come : more ≡ to ++ row ∷ []

-- one row or more went from one list to the other, and none was lost
pub record MovesSome (from left to more : List Row) : Type 0 where
  pub moved : IsPermutation (to ++ from) (more ++ left)
  pub fewer : length left < length from
