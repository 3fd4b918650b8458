-- A tree (data_tree's shape) in a memory whose cells have values and the sums of what is below them. A cell is named by
-- its place j, from 0; a link to it is j + 1.
use Rattle.std.specs.Prelude.{ℕ, zero, suc, ◌≡◌, ◌+◌, ◌-◌, ◌*◌, ◌%◌, ◌^◌, ◌<◌, ◌≤◌, ◌==◌, ◌&&◌, ltb, leb, if◌then◌else◌, Bool, true, false, not, List, [], ◌∷◌, slice_index, slice_set, Option, Some, None}
use Rattle.data_effects.specs.declared.position.Position.{Position}
use Rattle.data_effects.specs.Effects.{Effect, unchanged, changed}
use Rattle.data_effects.specs.Keys.{free_from, less_one}
use Rattle.data_tree.specs.declared.pool.Pool.{Pool}
use Rattle.data_tree.specs.Shapes.{Ranges}
use Rattle.data_tree.specs.Shapes as shapes
use Rattle.data_sums.specs.declared.sum_map.SumMap.{SumMap}
use Rattle.data_sums.specs.declared.sum_map.Passed.{Passed}
use Rattle.data_sums.specs.declared.sum_map.MapPut.{MapPut}
use Rattle.data_sums.specs.declared.sum_map.MapPut.TheVariants.{Added, Replaced, NoRoom}

abbrev pub tag_at : SumMap → ℕ → ℕ
tag_at r j = r.at + 1 + 5 * j

abbrev pub left_at : SumMap → ℕ → ℕ
left_at r j = r.at + 1 + 5 * j + 1

abbrev pub right_at : SumMap → ℕ → ℕ
right_at r j = r.at + 1 + 5 * j + 2

abbrev pub value_at : SumMap → ℕ → ℕ
value_at r j = r.at + 1 + 5 * j + 3

abbrev pub sum_at : SumMap → ℕ → ℕ
sum_at r j = r.at + 1 + 5 * j + 4

abbrev pub tag : SumMap → List ℕ → ℕ → ℕ
tag r m j = slice_index m (tag_at r j)

abbrev pub value : SumMap → List ℕ → ℕ → ℕ
value r m j = slice_index m (value_at r j)

abbrev pub SumMapFits : SumMap → ℕ → Type 0
SumMapFits r words = (r.at + 1 + 5 * r.cells ≤ words) × (r.at + 1 + 5 * r.cells < 2 ^ 64)

-- a pair among pairs that ascend by key
abbrev pub with_pair : ℕ × ℕ → List (ℕ × ℕ) → List (ℕ × ℕ)
with_pair p [] = p ∷ []
with_pair p (q ∷ qs) = if ltb p.0 q.0 then p ∷ q ∷ qs else q ∷ with_pair p qs

-- a cell's pair, where it is used
abbrev pub pair_of : ℕ → ℕ → List (ℕ × ℕ) → List (ℕ × ℕ)
pair_of zero v rest = rest
pair_of (suc key) v rest = with_pair (key, v) rest

abbrev pub pairs_to : SumMap → List ℕ → ℕ → List (ℕ × ℕ)
pairs_to r m zero = []
pairs_to r m (suc n) = pair_of (tag r m n) (value r m n) (pairs_to r m n)

-- THE CONTENTS: the keys with their values, by key
abbrev pub pairs : SumMap → List ℕ → List (ℕ × ℕ)
pairs r m = pairs_to r m r.cells

abbrev pub value_of : ℕ → List (ℕ × ℕ) → Option ℕ
value_of key [] = None
value_of key (p ∷ ps) = if p.0 == key then Some p.1 else value_of key ps

-- the sum of the values of the keys from lo to hi
abbrev pub sum_of : ℕ → ℕ → List (ℕ × ℕ) → ℕ
sum_of lo hi [] = 0
sum_of lo hi (p ∷ ps) = if leb lo p.0 && leb p.0 hi then p.1 + sum_of lo hi ps else sum_of lo hi ps

abbrev pub pool : SumMap → Pool
pool r = record { at = r.at; cells = r.cells; extra = 2 }

abbrev pub Used : SumMap → List ℕ → ℕ → Type 0
Used r m k = shapes.Used (pool r) m k

-- the sum of the values of the first n cells whose tags are between l and h
abbrev pub sum_within : SumMap → List ℕ → ℕ → ℕ → ℕ → ℕ
sum_within r m l h zero = 0
sum_within r m l h (suc n) = if ltb l (tag r m n) && ltb (tag r m n) h then sum_within r m l h n + value r m n else sum_within r m l h n

-- a tree, whose free cells have no value and no sum; the cells below a cell are those of its range,
-- so its sum word is the sum over that range
pub record Holds (r : SumMap) (m : List ℕ) (g : Ranges) : Type 0 where
  pub shape : shapes.Holds (pool r) m g
  pub bare : (i : ℕ) → i < r.cells → tag r m i ≡ 0 → (value r m i ≡ 0) × (slice_index m (sum_at r i) ≡ 0)
  pub sums : (i : ℕ) → Used r m i → slice_index m (sum_at r i) ≡ sum_within r m (g.low i) (g.high i) r.cells % 2 ^ 64

-- WELL FORMED
abbrev pub IsSumMap : SumMap → List ℕ → Type 0
IsSumMap r m = (g : Ranges) × Holds r m g

abbrev pub side_at : SumMap → List ℕ → ℕ → ℕ → ℕ
side_at r m key j = shapes.side_at (pool r) m key j

abbrev pub find : SumMap → List ℕ → ℕ → ℕ → ℕ → Position
find r m key n a = shapes.find (pool r) m key n a

abbrev pub position_of : SumMap → List ℕ → ℕ → Position
position_of r m key = shapes.position_of (pool r) m key

-- the sum word of the cell that a link names
abbrev pub sum_under : SumMap → List ℕ → ℕ → ℕ
sum_under r m zero = 0
sum_under r m (suc j) = slice_index m (sum_at r j)

-- what goes from x to y, modulo 2^64
abbrev pub step_to : ℕ → ℕ → ℕ
step_to x y = (y + (2 ^ 64 - x)) % 2 ^ 64

abbrev pub passed_by : SumMap → List ℕ → ℕ → Bool → Passed
passed_by r m j true = let rest : ℕ = slice_index m (right_at r j) in record { next = rest; added = step_to (sum_under r m rest) (slice_index m (sum_at r j)) }
passed_by r m j false = record { next = slice_index m (left_at r j); added = 0 }

-- a cell with a tag below the bound counts with what is on its left, and the walk to the bound goes to its right;
-- another doesn't, and the walk goes to its left
abbrev pub passed : SumMap → List ℕ → ℕ → ℕ → Passed
passed r m bound j = passed_by r m j (ltb (tag r m j) bound)

-- d more in the sums of the cells from the link a on, to the key's, n at most
abbrev pub raised : SumMap → ℕ → ℕ → List ℕ → List ℕ
raised r d j m = slice_set m (sum_at r j) ((slice_index m (sum_at r j) + d) % 2 ^ 64)

abbrev pub raised_in : SumMap → ℕ → ℕ → List ℕ → Effect ℕ
raised_in r d j m = changed ((slice_index m (sum_at r j) + d) % 2 ^ 64) (raised r d j m)

abbrev pub mended_by : (ℕ → List ℕ) → List ℕ → ℕ → List ℕ
mended_by on m zero = m
mended_by on m (suc j) = on j

abbrev pub mended : SumMap → ℕ → ℕ → ℕ → ℕ → List ℕ → List ℕ
mended r key d zero a m = m
mended r key d (suc n) a m = mended_by (λ j. if tag r m j == suc key then raised r d j m else mended r key d n (side_at r m key j) (raised r d j m)) m (slice_index m a)

-- from the link a on; whether a cell's sum was raised: not where the link names none
abbrev pub mended_in : SumMap → ℕ → ℕ → ℕ → List ℕ → Effect Bool
mended_in r a key d m = record { reply = not (slice_index m a == 0); memory = mended r key d r.cells a m; wrote = not (slice_index m a == 0) }

-- a new key's cell, with no sum yet
abbrev pub attached : SumMap → ℕ → ℕ → ℕ → ℕ → List ℕ → List ℕ
attached r key v c a m = slice_set (slice_set (slice_set m (tag_at r c) (suc key)) (value_at r c) v) a (suc c)

abbrev pub added_by : SumMap → ℕ → ℕ → List ℕ → Option ℕ → Effect MapPut
added_by r key v m None = unchanged NoRoom m
added_by r key v m (Some c) = changed Added (mended r key v r.cells r.at (attached r key v c (position_of r m key).link m))

abbrev pub replaced_in : SumMap → ℕ → ℕ → ℕ → List ℕ → Effect MapPut
replaced_in r key v j m = changed Replaced (mended r key (step_to (value r m j) v) r.cells r.at (slice_set m (value_at r j) v))

abbrev pub put_by : SumMap → ℕ → ℕ → List ℕ → ℕ → Effect MapPut
put_by r key v m zero = added_by r key v m (free_from (tag r m) 0 r.cells)
put_by r key v m (suc j) = replaced_in r key v j m

-- a new key takes the lowest free cell; one that is there gets the value
abbrev pub put_in : SumMap → ℕ → ℕ → List ℕ → Effect MapPut
put_in r key v m = put_by r key v m (position_of r m key).next

abbrev pub got_in : SumMap → ℕ → List ℕ → Effect (Option ℕ)
got_in r key m = unchanged (value_of key (pairs r m)) m

abbrev pub summed_in : SumMap → ℕ → ℕ → List ℕ → Effect ℕ
summed_in r lo hi m = unchanged (sum_of lo hi (pairs r m) % 2 ^ 64) m

-- each link of the pool, and the root, names a cell or none
abbrev pub LinksInside : SumMap → List ℕ → Type 0
LinksInside r m = (slice_index m r.at ≤ r.cells) × ((j : ℕ) → j < r.cells → (slice_index m (left_at r j) ≤ r.cells) × (slice_index m (right_at r j) ≤ r.cells))

-- and so does the link a
pub record LinksFrom (r : SumMap) (a : ℕ) (m : List ℕ) : Type 0 where
  pub links : LinksInside r m
  pub from : slice_index m a ≤ r.cells

-- the cell j has the key
pub record HasKey (r : SumMap) (key j : ℕ) (m : List ℕ) : Type 0 where
  pub well : IsSumMap r m
  pub at : tag r m j ≡ suc key

-- the address of a link: the root, or a link of a used cell
abbrev pub IsLink : SumMap → List ℕ → ℕ → Type 0
IsLink r m a = shapes.IsLink (pool r) m a

-- the link a names the cell j, which has no value
pub record IsEmptied (r : SumMap) (j a : ℕ) (m : List ℕ) : Type 0 where
  pub well : IsSumMap r m
  pub link : IsLink r m a
  pub named : slice_index m a ≡ suc j
  pub none : value r m j ≡ 0

-- the cell j, which has no value, has the word v as its right link
pub record HasRight (r : SumMap) (j v : ℕ) (m : List ℕ) : Type 0 where
  pub well : IsSumMap r m
  pub used : Used r m j
  pub none : value r m j ≡ 0
  pub right : v ≡ slice_index m (right_at r j)

-- the link e, which names the cell y, gets v, and the words of y become 0
abbrev pub spliced : SumMap → ℕ → ℕ → ℕ → List ℕ → List ℕ
spliced r y e v m = slice_set (slice_set (slice_set (slice_set (slice_set (slice_set m e v) (tag_at r y) 0) (left_at r y) 0) (right_at r y) 0) (value_at r y) 0) (sum_at r y) 0

abbrev pub retagged : SumMap → ℕ → ℕ → List ℕ → List ℕ
retagged r x v m = slice_set m (tag_at r x) v

-- the first cell from the link a on, to the left, that has nothing on its left
abbrev pub leftmost : SumMap → List ℕ → ℕ → ℕ → Position
leftmost r m n a = shapes.leftmost (pool r) m n a

-- the cell x, which has no value, takes that of y, which is on its right and has this key;
-- the sums from there on to y lose it
abbrev pub moved_up : SumMap → ℕ → ℕ → ℕ → List ℕ → List ℕ
moved_up r x y key m = mended r key (step_to (value r m y) 0) r.cells (right_at r x) (slice_set (slice_set m (value_at r x) (value r m y)) (value_at r y) 0)

-- x gets value and tag of the cell that s names, the least on x's right, which is spliced out
abbrev pub replaced_by : SumMap → ℕ → Position → List ℕ → List ℕ
replaced_by r x s m = let y : ℕ = less_one s.next in retagged r x s.tag (spliced r y s.link (slice_index m (right_at r y)) (moved_up r x y (less_one s.tag) m))

abbrev pub least_taken : SumMap → ℕ → List ℕ → Effect Bool
least_taken r x m = changed true (replaced_by r x (leftmost r m r.cells (right_at r x)) m)

-- a cell with one link at most is spliced out; one with two takes tag and value of the least cell on its right,
-- which is spliced out in its place
abbrev pub taken_out : SumMap → ℕ → ℕ → List ℕ → List ℕ
taken_out r x e m =
    if slice_index m (left_at r x) == 0 then spliced r x e (slice_index m (right_at r x)) m
    else (if slice_index m (right_at r x) == 0 then spliced r x e (slice_index m (left_at r x)) m
    else replaced_by r x (leftmost r m r.cells (right_at r x)) m)

abbrev pub taken_in : SumMap → ℕ → ℕ → List ℕ → Effect Bool
taken_in r x e m = changed true (taken_out r x e m)

abbrev pub removed_by : SumMap → ℕ → List ℕ → ℕ → Effect Bool
removed_by r key m zero = unchanged false m
removed_by r key m (suc j) = taken_in r j (position_of r m key).link (replaced_in r key 0 j m).memory

-- a key that is there loses its value, and then its cell
abbrev pub removed_in : SumMap → ℕ → List ℕ → Effect Bool
removed_in r key m = removed_by r key m (position_of r m key).next

-- each cell's value is a word, as it is in each memory that code holds
abbrev pub HasWords : SumMap → List ℕ → Type 0
HasWords r m = (i : ℕ) → i < r.cells → value r m i < 2 ^ 64
