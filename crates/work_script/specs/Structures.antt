-- The structures that operations work on, each by the number of its region.
use Rattle.std.specs.Prelude.{ℕ, ◌+◌, ◌<◌, ◌^◌, Bool, true, false, List, slice_index_or, All, AllPairs, Contains, Option, Some, None}
use Rattle.data_effects.specs.declared.insert.Insert.{Insert}
use Rattle.data_effects.specs.declared.insert.Insert.TheVariants.{Added, Present, NoRoom}
use Rattle.data_cells.specs.declared.counter.Counter.{Counter}
use Rattle.data_cells.specs.declared.list.List.{List as KeyList}
use Rattle.data_cells.specs.declared.hash.Hash.{Hash}
use Rattle.data_tree.specs.declared.tree.Tree.{Tree}
use Rattle.data_regions.specs.declared.region.Region.{Region}
use Rattle.data_regions.specs.declared.region.Region.TheVariants.{Counter as OfCounter, List as OfList, Hash as OfHash, Tree as OfTree, Queue as OfQueue, SumMap as OfSumMap}
use Rattle.data_regions.specs.Regions.{start_of, size_of, AreApart, EndsWithin}
use Rattle.data_queue.specs.declared.queue.Queue.{Queue}
use Rattle.data_queue.specs.declared.queue.Put.{Put}
use Rattle.data_queue.specs.declared.queue.Put.TheVariants as puts
use Rattle.data_sums.specs.declared.sum_map.SumMap.{SumMap}
use Rattle.data_sums.specs.declared.sum_map.MapPut.{MapPut}
use Rattle.data_sums.specs.declared.sum_map.MapPut.TheVariants as map_puts

-- the region of this number
abbrev pub region_at : List Region → ℕ → Region
region_at regions n = slice_index_or regions n (OfCounter (record { at = 0; stripes = 0 }))

abbrev pub as_counter : Region → Counter
as_counter (OfCounter c) = c
as_counter r = record { at = 0; stripes = 0 }

abbrev pub as_list : Region → KeyList
as_list (OfList l) = l
as_list r = record { at = 0; cells = 0 }

abbrev pub as_hash : Region → Hash
as_hash (OfHash h) = h
as_hash r = record { at = 0; cells = 0 }

abbrev pub as_tree : Region → Tree
as_tree (OfTree t) = t
as_tree r = record { at = 0; cells = 0 }

abbrev pub as_queue : Region → Queue
as_queue (OfQueue q) = q
as_queue r = record { at = 0; cells = 0 }

abbrev pub as_sum_map : Region → SumMap
as_sum_map (OfSumMap r) = r
as_sum_map r = record { at = 0; cells = 0 }

-- the structure of this number: without words where the region is of another kind, or missing
abbrev pub counter_in : List Region → ℕ → Counter
counter_in regions n = as_counter (region_at regions n)

abbrev pub list_in : List Region → ℕ → KeyList
list_in regions n = as_list (region_at regions n)

abbrev pub hash_in : List Region → ℕ → Hash
hash_in regions n = as_hash (region_at regions n)

abbrev pub tree_in : List Region → ℕ → Tree
tree_in regions n = as_tree (region_at regions n)

abbrev pub queue_in : List Region → ℕ → Queue
queue_in regions n = as_queue (region_at regions n)

abbrev pub sum_map_in : List Region → ℕ → SumMap
sum_map_in regions n = as_sum_map (region_at regions n)

-- the regions are apart, and end within so many words
pub record AreLaid (regions : List Region) (words : ℕ) : Type 0 where
  pub apart : AllPairs AreApart regions
  pub within : All (EndsWithin words) regions
  pub below : All (λ r. start_of r + size_of r < 2 ^ 64) regions

-- this one is among them
abbrev pub HasRegion : List Region → ℕ → Region → Type 0
HasRegion regions words r = AreLaid regions words × Contains regions r

-- replies as numbers
abbrev pub insert_reply : Insert → ℕ
insert_reply Added = 1
insert_reply Present = 0
insert_reply NoRoom = 2

abbrev pub bool_reply : Bool → ℕ
bool_reply true = 1
bool_reply false = 0

abbrev pub least_reply : Option ℕ → ℕ
least_reply None = 0
least_reply (Some key) = key + 1

abbrev pub put_reply : Put → ℕ
put_reply puts.Added = 1
put_reply puts.NoRoom = 2

abbrev pub map_put_reply : MapPut → ℕ
map_put_reply map_puts.Added = 1
map_put_reply map_puts.Replaced = 0
map_put_reply map_puts.NoRoom = 2

abbrev pub value_reply : Option ℕ → ℕ
value_reply None = 0
value_reply (Some v) = v
