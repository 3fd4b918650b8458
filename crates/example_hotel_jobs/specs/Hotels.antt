-- A hotel in a memory.
use Rattle.std.specs.Prelude.{ℕ, ◌≡◌, ◌<◌, ◌≤◌, ◌+◌, ◌==◌, Bool, not, List, slice_index}
use Rattle.tx_transaction.specs.Words.{sum_in, count_in}

-- whether a room with this word is taken
abbrev pub is_taken : ℕ → Bool
is_taken guest = not (guest == 0)

-- THE RULE
pub record IsOrderly (m : List ℕ) : Type 0 where
  -- no guest has two rooms
  pub once : (a b : ℕ) → a < 8 → b < 8 → 0 < slice_index m a → slice_index m a ≡ slice_index m b → a ≡ b
  -- no key of a free room is out, and two at most of any
  pub free : (room : ℕ) → room < 8 → slice_index m room ≡ 0 → slice_index m (8 + room) ≡ 0
  pub two : (room : ℕ) → room < 8 → slice_index m (8 + room) ≤ 2
  -- the counts
  pub taken : count_in is_taken 0 8 m ≡ slice_index m 16
  pub out : sum_in 8 16 m ≡ slice_index m 17
