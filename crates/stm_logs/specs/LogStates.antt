-- What contracts see of a log, and what a push makes of it.
use Rattle.std.specs.Prelude.{ℕ, ◌≡◌, ◌<◌, ◌+◌, ◌-◌, ◌⊎◌, ◌==◌, if◌then◌else◌, List, [], ◌∷◌, length, set, slice_index_or, get_or, take, map, None, IsSome}
use Rattle.stm_model.specs.Memories.{item_at, put}
use Rattle.stm_logs.specs.declared.push.Repeat.{Repeat}
use Rattle.stm_logs.specs.declared.push.Repeat.TheVariants.{Keep, Replace}
use Rattle.stm_logs.specs.declared.push.Push.{Push}
use Rattle.stm_logs.specs.declared.push.Push.TheVariants.{Done, Full}

-- the items, address and value, in the order in which their addresses came, at most len of them; of a write log, what
-- they were at each mark, the oldest first
pub record LogState : Type 0 where
  pub items : List (ℕ × ℕ)
  pub len : ℕ
  pub generation : ℕ
  pub marks : List (List (ℕ × ℕ))
  -- how many marks it has room for
  pub marks_limit : ℕ

-- a log of this length in this generation, with no items and no marks, and room for so many
abbrev pub empty_at : ℕ → ℕ → ℕ → LogState
empty_at len generation limit = record { items = []; len = len; generation = generation; marks = []; marks_limit = limit }

-- the list with the address's item as it is, or with a new one at the end
abbrev pub keep : ℕ → ℕ → List (ℕ × ℕ) → List (ℕ × ℕ)
keep a v [] = (a, v) ∷ []
keep a v (w ∷ ws) = if w.0 == a then w ∷ ws else w ∷ keep a v ws

abbrev pub pushed : Repeat → ℕ → ℕ → List (ℕ × ℕ) → List (ℕ × ℕ)
pushed Keep a v ws = keep a v ws
pushed Replace a v ws = put a v ws

-- A push at a is done where a is in the log or there is room for it, and then the items are those given; it is refused
-- exactly else, and then the log is as it was.
abbrev pub Pushes : LogState → ℕ → List (ℕ × ℕ) → Push → LogState → Type 0
Pushes old a items Done new = (IsSome (item_at a old.items) ⊎ (length old.items < old.len)) × (new ≡ record old { items = items })
Pushes old a items (Full limit) new = (item_at a old.items ≡ None) × (length old.items ≡ old.len) × (limit ≡ old.len) × (new ≡ old)

-- the last item has this value
abbrev pub with_last : ℕ → List (ℕ × ℕ) → List (ℕ × ℕ)
with_last v ws = set ws (length ws - 1) ((slice_index_or ws (length ws - 1) (0, 0)).0, v)

-- after the last generation the first comes again
abbrev pub next_generation : ℕ → ℕ
next_generation g = if g == 4294967295 then 1 else g + 1

-- the log without its items and marks, a generation on unless it has no items
abbrev pub renewed : LogState → LogState
renewed log = record log { items = []; generation = if length log.items == 0 then log.generation else next_generation log.generation; marks = [] }

-- rolled back to mark d: the items are those at the mark, which stands, and the marks above it are gone
abbrev pub rolled : ℕ → LogState → LogState
rolled d log = record log { items = get_or log.marks (d - 1) []; marks = take d log.marks }

abbrev pub firsts : List (ℕ × ℕ) → List ℕ
firsts ws = map (λ (w : ℕ × ℕ). w.0) ws
