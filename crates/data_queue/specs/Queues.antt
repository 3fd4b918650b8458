-- A queue in a memory: the word of its front, the number of its values, and a ring of cells,
-- named by their index from 0.
use Rattle.std.specs.Prelude.{ℕ, zero, suc, ◌≡◌, ◌+◌, ◌-◌, ◌^◌, ◌<◌, ◌≤◌, ltb, leb, ◌==◌, if◌then◌else◌, List, [], ◌∷◌, slice_index, slice_set, Option, Some, None}
use Rattle.data_queue.specs.declared.queue.Queue.{Queue}
use Rattle.data_queue.specs.declared.queue.Put.{Put}
use Rattle.data_queue.specs.declared.queue.Put.TheVariants.{Added, NoRoom}
use Rattle.data_effects.specs.Effects.{Effect, unchanged, changed}

abbrev pub QueueFits : Queue → ℕ → Type 0
QueueFits q words = (0 < q.cells) × (q.at + 2 + q.cells ≤ words) × (q.at + 2 + q.cells < 2 ^ 64)

abbrev pub front : Queue → List ℕ → ℕ
front q m = slice_index m q.at

abbrev pub count : Queue → List ℕ → ℕ
count q m = slice_index m (q.at + 1)

abbrev pub cell_at : Queue → ℕ → ℕ
cell_at q i = q.at + 2 + i

abbrev pub cell : Queue → List ℕ → ℕ → ℕ
cell q m i = slice_index m (cell_at q i)

-- after the last cell comes the first; i is below twice the cells
abbrev pub wrapped : ℕ → ℕ → ℕ
wrapped cells i = if ltb i cells then i else i - cells

-- the cell of the k-th value, from 0
abbrev pub index_of : Queue → List ℕ → ℕ → ℕ
index_of q m k = wrapped q.cells (front q m + k)

-- n values from the cell i on
abbrev pub values_from : Queue → List ℕ → ℕ → ℕ → List ℕ
values_from q m i zero = []
values_from q m i (suc n) = cell q m i ∷ values_from q m (wrapped q.cells (i + 1)) n

-- THE CONTENTS: the values from the front on, in order
abbrev pub contents : Queue → List ℕ → List ℕ
contents q m = values_from q m (front q m) (count q m)

-- WELL FORMED. A queue of no cells has no front
pub record IsQueue (q : Queue) (m : List ℕ) : Type 0 where
  pub starts : 0 < q.cells → front q m < q.cells
  pub fits : count q m ≤ q.cells
  pub small : (k : ℕ) → k < count q m → cell q m (index_of q m k) < 2 ^ 32
  pub spare : (k : ℕ) → count q m ≤ k → k < q.cells → cell q m (index_of q m k) ≡ 0

-- the value goes after the last one
abbrev pub enqueued : Queue → ℕ → List ℕ → List ℕ
enqueued q v m = slice_set (slice_set m (cell_at q (index_of q m (count q m))) v) (q.at + 1) (count q m + 1)

-- the first value leaves its cell
abbrev pub dequeued : Queue → List ℕ → List ℕ
dequeued q m = slice_set (slice_set (slice_set m (cell_at q (front q m)) 0) q.at (index_of q m 1)) (q.at + 1) (count q m - 1)

abbrev pub put_in : Queue → ℕ → List ℕ → Effect Put
put_in q v m = if leb q.cells (count q m) then unchanged NoRoom m else changed Added (enqueued q v m)

abbrev pub got_in : Queue → List ℕ → Effect (Option ℕ)
got_in q m = if count q m == 0 then unchanged None m else changed (Some (cell q m (front q m))) (dequeued q m)

abbrev pub counted_in : Queue → List ℕ → Effect ℕ
counted_in q m = unchanged (count q m) m
