-- Chains of cells in a memory. A cell is named by its place j in the pool, from 0; a link to it is j + 1, and 0 is a
-- link to none.
use Rattle.std.specs.Prelude.{ℕ, zero, suc, ◌≡◌, ◌+◌, ◌*◌, ◌%◌, ◌^◌, ◌<◌, ◌≤◌, ◌⊎◌, ltb, if◌then◌else◌, Bool, true, false, List, length, slice_index, slice_set, Option, Some, None}
use Rattle.data_cells.specs.declared.chains.Chains.{Chains}
use Rattle.data_effects.specs.declared.position.Position.{Position}
use Rattle.data_effects.specs.declared.insert.Insert.{Insert}
use Rattle.data_effects.specs.declared.insert.Insert.TheVariants.{Added, Present, NoRoom}
use Rattle.data_effects.specs.Effects.{Effect, unchanged, changed}
use Rattle.data_effects.specs.Keys.{has, keys_of, free_from, less_one}

abbrev pub tag_at : Chains → ℕ → ℕ
tag_at r j = r.at + r.heads + 2 * j

abbrev pub next_at : Chains → ℕ → ℕ
next_at r j = r.at + r.heads + 2 * j + 1

abbrev pub tag : Chains → List ℕ → ℕ → ℕ
tag r m j = slice_index m (tag_at r j)

-- the chain that a key, or a used cell's tag, is in
abbrev pub bucket : Chains → ℕ → ℕ
bucket r key = key % r.heads

abbrev pub head_of : Chains → ℕ → ℕ
head_of r key = r.at + bucket r key

abbrev pub ChainsFit : Chains → ℕ → Type 0
ChainsFit r words = (0 < r.heads) × (r.at + r.heads + 2 * r.cells ≤ words) × (r.at + r.heads + 2 * r.cells < 2 ^ 64)

-- THE CONTENTS: the keys in the cells, in order
abbrev pub keys : Chains → List ℕ → List ℕ
keys r m = keys_of (tag r m) r.cells

-- cell k is of chain b, and has a tag above low
pub record Above (r : Chains) (m : List ℕ) (b low k : ℕ) : Type 0 where
  pub inside : k < r.cells
  pub above : low < tag r m k
  pub chain : bucket r (less_one (tag r m k)) ≡ b

-- a is the address of a link of chain b, and low the tag of the cell that it is in: a head, with low 0,
-- or the link of a used cell
abbrev pub LinkOf : Chains → List ℕ → ℕ → ℕ → ℕ → Type 0
LinkOf r m b low a = ((a ≡ r.at + b) × (b < r.heads) × (low ≡ 0)) ⊎ ((i : ℕ) × (a ≡ next_at r i) × (low ≡ tag r m i) × Above r m b 0 i)

-- a link names the cell with the next tag of its chain, and none where there is none
abbrev pub Names : Chains → List ℕ → ℕ → ℕ → ℕ → Type 0
Names r m b low zero = (k : ℕ) → Above r m b low k → ⊥
Names r m b low (suc j) = Above r m b low j × ((k : ℕ) → Above r m b low k → tag r m j ≤ tag r m k)

-- WELL FORMED: so each chain goes through the used cells of its keys, each once, in order
pub record IsChains (r : Chains) (m : List ℕ) : Type 0 where
  pub names : (b low a : ℕ) → LinkOf r m b low a → Names r m b low (slice_index m a)
  pub differ : (i j : ℕ) → i < r.cells → j < r.cells → 0 < tag r m i → tag r m i ≡ tag r m j → i ≡ j
  pub spare : (i : ℕ) → i < r.cells → tag r m i ≡ 0 → slice_index m (next_at r i) ≡ 0
  pub small : (i : ℕ) → i < r.cells → tag r m i ≤ 2 ^ 32

-- the first link from a on that names no cell of a lesser key, after at most n cells
abbrev pub found_by : Chains → List ℕ → ℕ → ℕ → (ℕ → Position) → ℕ → Position
found_by r m key a on zero = record { link = a; next = 0; tag = 0 }
found_by r m key a on (suc j) = if ltb key (tag r m j) then record { link = a; next = suc j; tag = tag r m j } else on j

abbrev pub find : Chains → List ℕ → ℕ → ℕ → ℕ → Position
find r m key zero a = record { link = a; next = 0; tag = 0 }
find r m key (suc n) a = found_by r m key a (λ j. find r m key n (next_at r j)) (slice_index m a)

abbrev pub position_of : Chains → List ℕ → ℕ → Position
position_of r m key = find r m key r.cells (head_of r key)

-- the key goes into cell c, and the cell into its chain at the link a, which named w
abbrev pub linked : Chains → ℕ → ℕ → ℕ → ℕ → List ℕ → List ℕ
linked r key c a w m = slice_set (slice_set (slice_set m (tag_at r c) (suc key)) (next_at r c) w) a (suc c)

-- the link a, which named c, names what follows c, and c's words become 0
abbrev pub unlinked : Chains → ℕ → ℕ → ℕ → List ℕ → List ℕ
unlinked r c a w m = slice_set (slice_set (slice_set m a w) (tag_at r c) 0) (next_at r c) 0

abbrev pub contained_in : Chains → ℕ → List ℕ → Effect Bool
contained_in r key m = unchanged (has key (keys r m)) m

abbrev pub inserted_by : Chains → ℕ → List ℕ → Option ℕ → Effect Insert
inserted_by r key m None = unchanged NoRoom m
inserted_by r key m (Some c) = changed Added (linked r key c (position_of r m key).link (position_of r m key).next m)

-- a new key takes the lowest free cell
abbrev pub inserted_in : Chains → ℕ → List ℕ → Effect Insert
inserted_in r key m = if has key (keys r m) then unchanged Present m else inserted_by r key m (free_from (tag r m) 0 r.cells)

abbrev pub removed_by : Chains → Position → List ℕ → Effect Bool
removed_by r s m = let c : ℕ = less_one s.next in changed true (unlinked r c s.link (slice_index m (next_at r c)) m)

abbrev pub removed_in : Chains → ℕ → List ℕ → Effect Bool
removed_in r key m = if has key (keys r m) then removed_by r (position_of r m key) m else unchanged false m

abbrev pub counted_in : Chains → List ℕ → Effect ℕ
counted_in r m = unchanged (length (keys r m)) m
