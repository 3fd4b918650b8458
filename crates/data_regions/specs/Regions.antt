-- Regions of a memory, and when they are well formed.
use Rattle.std.specs.Prelude.{ℕ, Bool, true, false, ◌+◌, ◌*◌, ◌<◌, ◌≤◌, ◌⊎◌, ◌||◌, ltb, leb, List, [], ◌∷◌, All}
use Rattle.data_cells.specs.declared.counter.Counter.{Counter}
use Rattle.data_cells.specs.declared.hash.Hash.{Hash}
use Rattle.data_cells.specs.declared.list.List.{List as KeyList}
use Rattle.data_tree.specs.declared.tree.Tree.{Tree}
use Rattle.data_regions.specs.declared.region.Region.{Region}
use Rattle.data_regions.specs.declared.region.Region.TheVariants.{Counter as OfCounter, List as OfList, Hash as OfHash, Tree as OfTree, Queue as OfQueue, SumMap as OfSumMap}
use Rattle.data_cells.specs.Chains.{IsChains}
use Rattle.data_cells.specs.Structures.{list_of, hash_of}
use Rattle.data_tree.specs.Trees.{IsTree}
use Rattle.data_queue.specs.Queues.{IsQueue}
use Rattle.data_sums.specs.Sums.{IsSumMap, HasWords}
use Rattle.data_regions.specs.declared.region.Structure.{Structure}
use Rattle.data_regions.specs.declared.region.Structure.TheVariants as structures

-- a region's first word, and how many words it has
abbrev pub start_of : Region → ℕ
start_of (OfCounter c) = c.at
start_of (OfList l) = l.at
start_of (OfHash h) = h.at
start_of (OfTree t) = t.at
start_of (OfQueue q) = q.at
start_of (OfSumMap r) = r.at

abbrev pub size_of : Region → ℕ
size_of (OfCounter c) = c.stripes
size_of (OfList l) = 1 + 2 * l.cells
size_of (OfHash h) = 16 + 2 * h.cells
size_of (OfTree t) = 1 + 3 * t.cells
size_of (OfQueue q) = 2 + q.cells
size_of (OfSumMap r) = 1 + 5 * r.cells

-- what a region is for
abbrev pub structure_of : Region → Structure
structure_of (OfCounter c) = structures.Counter
structure_of (OfList l) = structures.List
structure_of (OfHash h) = structures.Hash
structure_of (OfTree t) = structures.Tree
structure_of (OfQueue q) = structures.Queue
structure_of (OfSumMap r) = structures.SumMap

-- a structure's region, by its first word and its stripes or cells
abbrev pub region_for : Structure → ℕ → ℕ → Region
region_for structures.Counter at size = OfCounter (record { at = at; stripes = size })
region_for structures.List at size = OfList (record { at = at; cells = size })
region_for structures.Hash at size = OfHash (record { at = at; cells = size })
region_for structures.Tree at size = OfTree (record { at = at; cells = size })
region_for structures.Queue at size = OfQueue (record { at = at; cells = size })
region_for structures.SumMap at size = OfSumMap (record { at = at; cells = size })

-- they are one
abbrev pub is_structure : Structure → Structure → Bool
is_structure structures.Counter structures.Counter = true
is_structure structures.List structures.List = true
is_structure structures.Hash structures.Hash = true
is_structure structures.Tree structures.Tree = true
is_structure structures.Queue structures.Queue = true
is_structure structures.SumMap structures.SumMap = true
is_structure s t = false

-- every counter is well formed
abbrev pub WellFormed : Region → List ℕ → Type 0
WellFormed (OfCounter c) m = Unit {0}
WellFormed (OfList l) m = IsChains (list_of l) m
WellFormed (OfHash h) m = IsChains (hash_of h) m
WellFormed (OfTree t) m = IsTree t m
WellFormed (OfQueue q) m = IsQueue q m
WellFormed (OfSumMap r) m = IsSumMap r m × HasWords r m

-- THE RULE
abbrev pub AllWellFormed : List Region → List ℕ → Type 0
AllWellFormed regions m = All (λ r. WellFormed r m) regions

abbrev pub IsOutside : ℕ → Region → Type 0
IsOutside a r = (a < start_of r) ⊎ (start_of r + size_of r ≤ a)

abbrev pub is_outside : ℕ → Region → Bool
is_outside a r = ltb a (start_of r) || leb (start_of r + size_of r) a

-- the address is in no region
abbrev pub IsPlain : List Region → ℕ → Type 0
IsPlain regions a = All (IsOutside a) regions

-- no word is in both
abbrev pub AreApart : Region → Region → Type 0
AreApart r s = (start_of r + size_of r ≤ start_of s) ⊎ (start_of s + size_of s ≤ start_of r)

abbrev pub EndsWithin : ℕ → Region → Type 0
EndsWithin words r = start_of r + size_of r ≤ words

abbrev pub counter_one : Counter
counter_one = record { at = 64; stripes = 4 }

abbrev pub list_one : KeyList
list_one = record { at = 128; cells = 32 }

abbrev pub hash_one : Hash
hash_one = record { at = 256; cells = 64 }

abbrev pub tree_one : Tree
tree_one = record { at = 512; cells = 64 }

-- the regions of the workload text's first version
abbrev pub version_one : List Region
version_one = OfCounter counter_one ∷ OfList list_one ∷ OfHash hash_one ∷ OfTree tree_one ∷ []
