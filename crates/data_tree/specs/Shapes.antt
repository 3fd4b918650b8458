-- The shape of a binary search tree in a memory, whatever else its cells hold. A cell is named by its place j in the
-- pool, from 0; a link to it is j + 1, and 0 is a link to none.
use Rattle.std.specs.Prelude.{ℕ, zero, suc, ◌≡◌, ◌+◌, ◌*◌, ◌^◌, ◌<◌, ◌≤◌, ◌⊎◌, ◌==◌, ltb, if◌then◌else◌, List, slice_index}
use Rattle.data_effects.specs.declared.position.Position.{Position}
use Rattle.data_tree.specs.declared.pool.Pool.{Pool}

-- how long a cell is: its tag, its links, and what else it holds
abbrev pub width : Pool → ℕ
width r = 3 + r.extra

-- the pool's words are there
abbrev pub PoolFits : Pool → ℕ → Type 0
PoolFits r words = (r.at + 1 + width r * r.cells ≤ words) × (r.at + 1 + width r * r.cells < 2 ^ 64)

abbrev pub tag_at : Pool → ℕ → ℕ
tag_at r j = r.at + 1 + width r * j

abbrev pub left_at : Pool → ℕ → ℕ
left_at r j = r.at + 1 + width r * j + 1

abbrev pub right_at : Pool → ℕ → ℕ
right_at r j = r.at + 1 + width r * j + 2

abbrev pub tag : Pool → List ℕ → ℕ → ℕ
tag r m j = slice_index m (tag_at r j)

-- above every tag
abbrev pub top : ℕ
top = 2 ^ 32 + 1

-- of each used cell: the range of tags, between low and high, that it and the cells below it may have, and its rank,
-- which is greater than those of the cells whose tags end its range
pub record Ranges : Type 0 where
  pub low : ℕ → ℕ
  pub high : ℕ → ℕ
  pub rank : ℕ → ℕ

pub record Used (r : Pool) (m : List ℕ) (k : ℕ) : Type 0 where
  pub inside : k < r.cells
  pub pos : 0 < tag r m k

-- cell k has a tag between l and h
pub record Within (r : Pool) (m : List ℕ) (l h k : ℕ) : Type 0 where
  pub inside : k < r.cells
  pub above : l < tag r m k
  pub below : tag r m k < h

-- a is the address of a link whose range is l to h: the root, or the left or the right link of a used cell
abbrev pub LinkOf : Pool → List ℕ → Ranges → ℕ → ℕ → ℕ → Type 0
LinkOf r m g l h a =
    ((a ≡ r.at) × (l ≡ 0) × (h ≡ top))
    ⊎ (((i : ℕ) × (a ≡ left_at r i) × (l ≡ g.low i) × (h ≡ tag r m i) × Used r m i)
    ⊎ ((i : ℕ) × (a ≡ right_at r i) × (l ≡ tag r m i) × (h ≡ g.high i) × Used r m i))

-- a link names a cell of its range, which has this range itself; it names none where no cell is of its range
abbrev pub Names : Pool → List ℕ → Ranges → ℕ → ℕ → ℕ → Type 0
Names r m g l h zero = (k : ℕ) → Within r m l h k → ⊥
Names r m g l h (suc j) = Within r m l h j × (g.low j ≡ l) × (g.high j ≡ h)

-- a range of the rank n ends at l: there is nothing, or a used cell of a lesser rank
abbrev pub Bounds : Pool → List ℕ → Ranges → ℕ → ℕ → ℕ → Type 0
Bounds r m g end n l = (l ≡ end) ⊎ ((k : ℕ) × Used r m k × (tag r m k ≡ l) × (g.rank k < n))

-- WELL FORMED: so each used cell is reached from the root, once, lesser keys on its left, greater ones on its right
pub record Holds (r : Pool) (m : List ℕ) (g : Ranges) : Type 0 where
  pub names : (l h a : ℕ) → LinkOf r m g l h a → Names r m g l h (slice_index m a)
  pub lows : (i : ℕ) → Used r m i → (g.low i < tag r m i) × Bounds r m g 0 (g.rank i) (g.low i)
  pub highs : (i : ℕ) → Used r m i → (tag r m i < g.high i) × Bounds r m g top (g.rank i) (g.high i)
  pub differ : (i j : ℕ) → Used r m i → Used r m j → tag r m i ≡ tag r m j → i ≡ j
  pub spare : (i : ℕ) → i < r.cells → tag r m i ≡ 0 → (slice_index m (left_at r i) ≡ 0) × (slice_index m (right_at r i) ≡ 0)
  pub small : (i : ℕ) → i < r.cells → tag r m i < top

abbrev pub IsShape : Pool → List ℕ → Type 0
IsShape r m = (g : Ranges) × Holds r m g

-- the address of a link: the root, or a link of a used cell
abbrev pub IsLink : Pool → List ℕ → ℕ → Type 0
IsLink r m a = (a ≡ r.at) ⊎ ((i : ℕ) × Used r m i × ((a ≡ left_at r i) ⊎ (a ≡ right_at r i)))

-- the link from cell j towards the key
abbrev pub side_at : Pool → List ℕ → ℕ → ℕ → ℕ
side_at r m key j = if ltb key (tag r m j) then left_at r j else right_at r j

-- the first link from a towards the key that names no cell, or the key's, after at most n cells
abbrev pub found_by : Pool → List ℕ → ℕ → ℕ → (ℕ → Position) → ℕ → Position
found_by r m key a on zero = record { link = a; next = 0; tag = 0 }
found_by r m key a on (suc j) = if tag r m j == suc key then record { link = a; next = suc j; tag = tag r m j } else on j

abbrev pub find : Pool → List ℕ → ℕ → ℕ → ℕ → Position
find r m key zero a = record { link = a; next = 0; tag = 0 }
find r m key (suc n) a = found_by r m key a (λ j. find r m key n (side_at r m key j)) (slice_index m a)

abbrev pub position_of : Pool → List ℕ → ℕ → Position
position_of r m key = find r m key r.cells r.at

-- the first cell from the link a on, to the left, that has nothing on its left
abbrev pub leftmost_by : Pool → List ℕ → ℕ → (ℕ → Position) → ℕ → Position
leftmost_by r m a on zero = record { link = a; next = 0; tag = 0 }
leftmost_by r m a on (suc j) = if slice_index m (left_at r j) == 0 then record { link = a; next = suc j; tag = tag r m j } else on j

abbrev pub leftmost : Pool → List ℕ → ℕ → ℕ → Position
leftmost r m zero a = record { link = a; next = 0; tag = 0 }
leftmost r m (suc n) a = leftmost_by r m a (λ j. leftmost r m n (left_at r j)) (slice_index m a)

-- the word at a is v, in a tree
pub record IsAt (r : Pool) (a v : ℕ) (m : List ℕ) : Type 0 where
  pub well : IsShape r m
  pub at : v ≡ slice_index m a
