-- An inventory in a memory, and what its transactions do to it.
use Rattle.std.specs.Prelude.{ℕ, ◌≡◌, ◌<◌, ◌≤◌, ◌+◌, ◌-◌, if◌then◌else◌, leb, min, List, [], ◌∷◌, slice_index}
use Rattle.stm_model.specs.Memories.{written}
use Rattle.data_effects.specs.Effects.{Effect, changed}
use Rattle.example_stock_jobs.specs.declared.stock.Fill.{Fill}
use Rattle.example_stock_jobs.specs.declared.stock.Order.{Order}
use Rattle.example_stock_jobs.specs.declared.stock.Order.TheVariants.{Reserve, Release, Sell}
use Rattle.example_stock_jobs.specs.declared.stock.Supply.{Supply}

-- THE RULE: of each item, what is in stock and what was sold add up to what was supplied,
-- and no more is reserved than is in stock
abbrev pub IsStocked : List ℕ → Type 0
IsStocked m = (item : ℕ) → item < 16 → (slice_index m (16 + item) + slice_index m (48 + item) ≡ slice_index m item) × (slice_index m (32 + item) ≤ slice_index m (16 + item))

-- so many are supplied, as far as a word counts
abbrev pub supplied_in : Supply → List ℕ → Effect ℕ
supplied_in it m =
    let amount = min it.amount (18446744073709551615 - slice_index m it.item) in
    changed amount (written m ((it.item, slice_index m it.item + amount) ∷ (16 + it.item, slice_index m (16 + it.item) + amount) ∷ []))

-- the stock, and how many of it are reserved, once an order was filled, or not for want of items
abbrev pub filled : Order → ℕ → ℕ → ℕ → ℕ × ℕ
filled Reserve amount stock reserved = if leb amount (stock - reserved) then (stock, reserved + amount) else (stock, reserved)
filled Release amount stock reserved = if leb amount reserved then (stock, reserved - amount) else (stock, reserved)
filled Sell amount stock reserved = if leb amount reserved then (stock - amount, reserved - amount) else (stock, reserved)

-- so much of an item is left in stock, and reserved; the rest was sold
abbrev pub left_in : ℕ → ℕ × ℕ → List ℕ → List ℕ
left_in item left m = written m ((16 + item, left.0) ∷ (32 + item, left.1) ∷ (48 + item, slice_index m item - left.0) ∷ [])

abbrev pub filled_in : Fill → List ℕ → Effect (ℕ × ℕ)
filled_in it m =
    let left = filled it.order it.amount (slice_index m (16 + it.item)) (slice_index m (32 + it.item)) in
    changed left (left_in it.item left m)
