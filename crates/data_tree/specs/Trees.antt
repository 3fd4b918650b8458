-- A set of keys in a binary search tree in a memory.
use Rattle.std.specs.Prelude.{ℕ, suc, ◌+◌, ◌*◌, ◌^◌, ◌<◌, ◌≤◌, ◌==◌, if◌then◌else◌, Bool, true, false, List, slice_index, slice_set, Option, Some, None}
use Rattle.data_tree.specs.declared.tree.Tree.{Tree}
use Rattle.data_tree.specs.declared.pool.Pool.{Pool}
use Rattle.data_tree.specs.Shapes.{IsShape}
use Rattle.data_tree.specs.Shapes as shapes
use Rattle.data_effects.specs.declared.position.Position.{Position}
use Rattle.data_effects.specs.declared.insert.Insert.{Insert}
use Rattle.data_effects.specs.declared.insert.Insert.TheVariants.{Added, Present, NoRoom}
use Rattle.data_effects.specs.Effects.{Effect, unchanged, changed}
use Rattle.data_effects.specs.Keys.{has, keys_of, free_from, least, less_one}

abbrev pub tag_at : Tree → ℕ → ℕ
tag_at r j = r.at + 1 + 3 * j

abbrev pub left_at : Tree → ℕ → ℕ
left_at r j = r.at + 1 + 3 * j + 1

abbrev pub right_at : Tree → ℕ → ℕ
right_at r j = r.at + 1 + 3 * j + 2

abbrev pub tag : Tree → List ℕ → ℕ → ℕ
tag r m j = slice_index m (tag_at r j)

abbrev pub TreeFits : Tree → ℕ → Type 0
TreeFits r words = (r.at + 1 + 3 * r.cells ≤ words) × (r.at + 1 + 3 * r.cells < 2 ^ 64)

-- THE CONTENTS: the keys in the cells, in order
abbrev pub keys : Tree → List ℕ → List ℕ
keys r m = keys_of (tag r m) r.cells

abbrev pub pool : Tree → Pool
pool r = record { at = r.at; cells = r.cells; extra = 0 }

abbrev pub Used : Tree → List ℕ → ℕ → Type 0
Used r m k = shapes.Used (pool r) m k

-- WELL FORMED: so each used cell is reached from the root, once, lesser keys on its left, greater ones on its right
abbrev pub IsTree : Tree → List ℕ → Type 0
IsTree r m = IsShape (pool r) m

-- the address of a link: the root, or a link of a used cell
abbrev pub IsLink : Tree → List ℕ → ℕ → Type 0
IsLink r m a = shapes.IsLink (pool r) m a

-- the link from cell j towards the key
abbrev pub side_at : Tree → List ℕ → ℕ → ℕ → ℕ
side_at r m key j = shapes.side_at (pool r) m key j

-- the first link from a towards the key that names no cell, or the key's, after at most n cells
abbrev pub find : Tree → List ℕ → ℕ → ℕ → ℕ → Position
find r m key n a = shapes.find (pool r) m key n a

abbrev pub position_of : Tree → List ℕ → ℕ → Position
position_of r m key = shapes.position_of (pool r) m key

-- the key goes into the free cell c, which the link a names then
abbrev pub attached : Tree → ℕ → ℕ → ℕ → List ℕ → List ℕ
attached r key c a m = slice_set (slice_set m (tag_at r c) (suc key)) a (suc c)

abbrev pub contained_in : Tree → ℕ → List ℕ → Effect Bool
contained_in r key m = unchanged (has key (keys r m)) m

abbrev pub inserted_by : Tree → ℕ → List ℕ → Option ℕ → Effect Insert
inserted_by r key m None = unchanged NoRoom m
inserted_by r key m (Some c) = changed Added (attached r key c (position_of r m key).link m)

-- a new key takes the lowest free cell
abbrev pub inserted_in : Tree → ℕ → List ℕ → Effect Insert
inserted_in r key m = if has key (keys r m) then unchanged Present m else inserted_by r key m (free_from (tag r m) 0 r.cells)

-- the link e, which names the cell y, gets v, and the words of y become 0
abbrev pub spliced : Tree → ℕ → ℕ → ℕ → List ℕ → List ℕ
spliced r y e v m = slice_set (slice_set (slice_set (slice_set m e v) (tag_at r y) 0) (left_at r y) 0) (right_at r y) 0

abbrev pub retagged : Tree → ℕ → ℕ → List ℕ → List ℕ
retagged r x v m = slice_set m (tag_at r x) v

-- the first cell from the link a on, to the left, that has nothing on its left
abbrev pub leftmost : Tree → List ℕ → ℕ → ℕ → Position
leftmost r m n a = shapes.leftmost (pool r) m n a

-- the cell x gets the tag of the cell that s names, the least on x's right, which is spliced out
abbrev pub replaced : Tree → ℕ → Position → List ℕ → List ℕ
replaced r x s m = let y : ℕ = less_one s.next in retagged r x s.tag (spliced r y s.link (slice_index m (right_at r y)) m)

-- a cell with one link at most is spliced out; one with two takes the tag of the least cell on its right,
-- which is spliced out in its place
abbrev pub taken_out : Tree → ℕ → ℕ → List ℕ → List ℕ
taken_out r x e m =
    if slice_index m (left_at r x) == 0 then spliced r x e (slice_index m (right_at r x)) m
    else (if slice_index m (right_at r x) == 0 then spliced r x e (slice_index m (left_at r x)) m
    else replaced r x (leftmost r m r.cells (right_at r x)) m)

abbrev pub removed_in : Tree → ℕ → List ℕ → Effect Bool
removed_in r key m = if has key (keys r m) then changed true (taken_out r (less_one (position_of r m key).next) (position_of r m key).link m) else unchanged false m

abbrev pub least_in : Tree → List ℕ → Effect (Option ℕ)
least_in r m = unchanged (least (keys r m)) m
