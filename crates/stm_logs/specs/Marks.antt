-- What the marks of a write log keep, and the items at each.
use Rattle.std.specs.Prelude.{ℕ, ◌≡◌, ◌<◌, ◌≤◌, List, [], ◌∷◌, length, get_or, map, take, Option, Some, None, IsSome}
use Rattle.stm_model.specs.Memories.{item_at, Once}
use Rattle.stm_logs.specs.declared.marks.Mark.{Mark}
use Rattle.stm_logs.specs.LogStates.{empty_at, keep, next_generation}

abbrev pub blank_mark : Mark
blank_mark = record { count = 0; olds = empty_at 0 0 0 }

abbrev pub value_or : Option ℕ → ℕ → ℕ
value_or None v = v
value_or (Some old) v = old

-- an item with its old value, if there is one
abbrev pub old_or : List (ℕ × ℕ) → ℕ × ℕ → ℕ × ℕ
old_or olds w = (w.0, value_or (item_at w.0 olds) w.1)

-- the items at the mark, of those now
abbrev pub at_mark : Mark → List (ℕ × ℕ) → List (ℕ × ℕ)
at_mark m ws = take m.count (map (old_or m.olds.items) ws)

-- the items at the first of the marks, or now where there is none; and at each of them
abbrev pub at_first : List Mark → List (ℕ × ℕ) → List (ℕ × ℕ)
at_first [] ws = ws
at_first (m ∷ ms) ws = at_mark m (at_first ms ws)

abbrev pub marked : List Mark → List (ℕ × ℕ) → List (List (ℕ × ℕ))
marked [] ws = []
marked (m ∷ ms) ws = at_mark m (at_first ms ws) ∷ marked ms ws

-- each address of the one list is in the other
abbrev pub Covers : List (ℕ × ℕ) → List (ℕ × ℕ) → Type 0
Covers ys xs = (a : ℕ) → IsSome (item_at a xs) → IsSome (item_at a ys)

-- a mark's old values are of items that there are
pub record Saves (m : Mark) (ws : List (ℕ × ℕ)) : Type 0 where
  pub count : m.count ≤ length ws
  pub once : Once m.olds.items
  pub there : Covers ws m.olds.items

abbrev pub Tied : List Mark → List (ℕ × ℕ) → Type 0
Tied [] ws = Unit {0}
Tied (m ∷ ms) ws = Saves m (at_first ms ws) × Tied ms ws

-- each mark, also one that doesn't stand, has room for a value an item
abbrev pub Rooms : ℕ → List Mark → Type 0
Rooms len ms = (k : ℕ) → k < length ms → len ≤ (get_or ms k blank_mark).olds.len

pub record AreBlank (len limit : ℕ) (ms : List Mark) : Type 0 where
  pub size : length ms ≡ limit
  pub rooms : Rooms len ms

-- the old value of the address is kept, if it has one and it isn't kept yet
abbrev pub keep_some : Option ℕ → ℕ → List (ℕ × ℕ) → List (ℕ × ℕ)
keep_some None a olds = olds
keep_some (Some old) a olds = keep a old olds

abbrev pub saved : ℕ → List (ℕ × ℕ) → Mark → Mark
saved a ws m = record m { olds = record m.olds { items = keep_some (item_at a ws) a m.olds.items } }

abbrev pub emptied_mark : Mark → Mark
emptied_mark m = record m { olds = record m.olds { items = []; generation = next_generation m.olds.generation; marks = [] } }

-- the values of both, where both have one the first's
abbrev pub keep_all : List (ℕ × ℕ) → List (ℕ × ℕ) → List (ℕ × ℕ)
keep_all [] olds = olds
keep_all (w ∷ ws) olds = keep_all ws (keep w.0 w.1 olds)

abbrev pub merged : Mark → Mark → Mark
merged lower upper = record lower { olds = record lower.olds { items = keep_all upper.olds.items lower.olds.items } }

-- there is room for the values of both: all are of items of one list that the lower has room for
pub record CanMerge (lower upper : Mark) : Type 0 where
  pub items : List (ℕ × ℕ)
  pub room : length items ≤ lower.olds.len
  pub once : Once lower.olds.items
  pub lower_there : Covers items lower.olds.items
  pub upper_there : Covers items upper.olds.items
