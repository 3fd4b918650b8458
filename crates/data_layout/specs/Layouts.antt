-- Words of a memory, handed out one after another.
use Rattle.std.specs.Prelude.{ℕ, ◌≡◌, ◌<◌, ◌≤◌, ◌+◌, List, [], ◌∷◌, length, slice_index_or}

-- a layout that had handed out `before` words gave so many from `at` on: all of them are new,
-- and all that it gives later come after them
abbrev pub Gives : ℕ → ℕ → ℕ → ℕ → Type 0
Gives before at size after = (at ≡ before) × (after ≡ at + size)

-- it gave these, each by its address and size, the first first
abbrev pub AllGiven : ℕ → List (ℕ × ℕ) → ℕ → Type 0
AllGiven before [] after = before ≡ after
AllGiven before (s ∷ ss) after = (next : ℕ) × Gives before s.0 s.1 next × AllGiven next ss after

abbrev pub given_at : List (ℕ × ℕ) → ℕ → ℕ × ℕ
given_at ss i = slice_index_or ss i (0, 0)

-- each ends where the words do or before, and before each that was given later
abbrev pub AreApart : List (ℕ × ℕ) → ℕ → Type 0
AreApart ss words = (i : ℕ) → i < length ss → ((given_at ss i).0 + (given_at ss i).1 ≤ words) × ((j : ℕ) → i < j → j < length ss → (given_at ss i).0 + (given_at ss i).1 ≤ (given_at ss j).0)

-- LAYOUT: whatever was given is apart, within the words of the layout
abbrev pub HandsOutApart : Type 0
HandsOutApart = (ss : List (ℕ × ℕ)) (words : ℕ) → AllGiven 0 ss words → AreApart ss words
