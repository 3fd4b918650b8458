-- Laws of what a layout handed out.
use Rattle.std.proofs.Common.{ℕ, zero, suc, ◌<◌, ◌≤◌, ◌+◌, List, [], ◌∷◌, length, arith}
use Rattle.data_layout.specs.Layouts.{AllGiven, given_at, AreApart, HandsOutApart}

-- what is given later begins no earlier
from-before : (before : ℕ) (ss : List (ℕ × ℕ)) (after i : ℕ) → AllGiven before ss after → i < length ss → before ≤ (given_at ss i).0
from-before before [] after i given lt = absurd (omega (arith, lt))
from-before before (s ∷ ss) after zero given lt = let g = given.1 in omega (arith, g)
from-before before (s ∷ ss) after (suc i) given lt = let g = given.1 in let more = from-before given.0 ss after i given.2 (omega (arith, lt)) in omega (arith, g, more)

rises : (before : ℕ) (ss : List (ℕ × ℕ)) (after : ℕ) → AllGiven before ss after → before ≤ after
rises before [] after given = omega (arith, given)
rises before (s ∷ ss) after given = let g = given.1 in let more = rises given.0 ss after given.2 in omega (arith, g, more)

-- one more in front
later : (s : ℕ × ℕ) (ss : List (ℕ × ℕ)) (i : ℕ)
    → ((j : ℕ) → i < j → j < length ss → (given_at ss i).0 + (given_at ss i).1 ≤ (given_at ss j).0) → (j : ℕ) → suc i < j
    → j < length (s ∷ ss) → (given_at ss i).0 + (given_at ss i).1 ≤ (given_at (s ∷ ss) j).0
later s ss i h zero less within = absurd (omega (arith, less))
later s ss i h (suc j) less within = h j (omega (arith, less)) (omega (arith, within))

apart : (before : ℕ) (ss : List (ℕ × ℕ)) (after : ℕ) → AllGiven before ss after → AreApart ss after
apart before [] after given i lt = absurd (omega (arith, lt))
apart before (s ∷ ss) after given zero lt =
    let g = given.1 in let more = rises given.0 ss after given.2 in
    ((omega (arith, g, more)), (λ j less within. by j less within))
  where
    by : (j : ℕ) → 0 < j → j < length (s ∷ ss) → s.0 + s.1 ≤ (given_at (s ∷ ss) j).0
    by zero less within = absurd (omega (arith, less))
    by (suc j) less within = let g = given.1 in let more = from-before given.0 ss after j given.2 (omega (arith, within)) in omega (arith, g, more)
apart before (s ∷ ss) after given (suc i) lt =
    let rest = apart given.0 ss after given.2 i (omega (arith, lt)) in
    (rest.0, (λ j less within. later s ss i rest.1 j less within))

pub hands-out-apart : HandsOutApart
hands-out-apart ss words given = apart 0 ss words given
