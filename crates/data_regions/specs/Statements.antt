-- What the law functions say.
use Rattle.std.specs.Prelude.{ℕ, ◌≡◌, ◌+◌, ◌*◌, ◌%◌, ◌^◌, ◌<◌, ◌≤◌, ◌⊎◌, List, [], length, replicate, slice_set, All, AllPairs, Contains}
use Rattle.data_cells.specs.declared.counter.Counter.{Counter}
use Rattle.data_cells.specs.declared.hash.Hash.{Hash}
use Rattle.data_cells.specs.declared.list.List.{List as KeyList}
use Rattle.data_tree.specs.declared.tree.Tree.{Tree}
use Rattle.data_regions.specs.declared.region.Region.{Region}
use Rattle.data_regions.specs.declared.region.Region.TheVariants.{Counter as OfCounter, List as OfList, Hash as OfHash, Tree as OfTree, Queue as OfQueue, SumMap as OfSumMap}
use Rattle.data_cells.specs.Counters.{added_in}
use Rattle.data_cells.specs.Chains.{tag_at, next_at, head_of, inserted_in, removed_in}
use Rattle.data_cells.specs.Structures.{list_of, hash_of}
use Rattle.data_tree.specs.Trees.{tag_at as tree_tag_at, left_at, right_at, inserted_in as tree_inserted_in, removed_in as tree_removed_in}
use Rattle.data_queue.specs.declared.queue.Queue.{Queue}
use Rattle.data_queue.specs.Queues.{put_in as queue_put_in, got_in as queue_got_in}
use Rattle.data_sums.specs.declared.sum_map.SumMap.{SumMap}
use Rattle.data_sums.specs.Sums.{put_in as map_put_in, removed_in as map_removed_in}
use Rattle.data_regions.specs.Regions.{AllWellFormed, IsPlain, AreApart, EndsWithin, counter_one, list_one, hash_one, tree_one, version_one}

abbrev pub OpeningIsGood : Type 0
OpeningIsGood = (regions : List Region) (words : ℕ) → AllWellFormed regions (replicate words 0)

abbrev pub NoRegionIsGood : Type 0
NoRegionIsGood = (m : List ℕ) → AllWellFormed [] m

abbrev pub PlainWriteKeeps : Type 0
PlainWriteKeeps = (regions : List Region) (m : List ℕ) (a v : ℕ) → IsPlain regions a → AllWellFormed regions m → AllWellFormed regions (slice_set m a v)

abbrev pub AddKeeps : Type 0
AddKeeps = (regions : List Region) (c : Counter) (m : List ℕ) (stripe k : ℕ) → AllPairs AreApart regions → Contains regions (OfCounter c) → stripe < c.stripes
    → AllWellFormed regions m → AllWellFormed regions (added_in c stripe k m).memory

abbrev pub ListKeeps : Type 0
ListKeeps = (regions : List Region) (l : KeyList) (m : List ℕ) (key : ℕ) → AllPairs AreApart regions → Contains regions (OfList l) → EndsWithin (length m) (OfList l) → key < 2 ^ 32
    → AllWellFormed regions m → AllWellFormed regions (inserted_in (list_of l) key m).memory × AllWellFormed regions (removed_in (list_of l) key m).memory

abbrev pub HashKeeps : Type 0
HashKeeps = (regions : List Region) (h : Hash) (m : List ℕ) (key : ℕ) → AllPairs AreApart regions → Contains regions (OfHash h) → EndsWithin (length m) (OfHash h) → key < 2 ^ 32
    → AllWellFormed regions m → AllWellFormed regions (inserted_in (hash_of h) key m).memory × AllWellFormed regions (removed_in (hash_of h) key m).memory

abbrev pub TreeKeeps : Type 0
TreeKeeps = (regions : List Region) (t : Tree) (m : List ℕ) (key : ℕ) → AllPairs AreApart regions → Contains regions (OfTree t) → EndsWithin (length m) (OfTree t) → key < 2 ^ 32
    → AllWellFormed regions m → AllWellFormed regions (tree_inserted_in t key m).memory × AllWellFormed regions (tree_removed_in t key m).memory

-- a queue of no cells has no room for a front
abbrev pub QueueKeeps : Type 0
QueueKeeps = (regions : List Region) (q : Queue) (m : List ℕ) (v : ℕ) → AllPairs AreApart regions → Contains regions (OfQueue q) → EndsWithin (length m) (OfQueue q) → 0 < q.cells → q.at + 2 + q.cells < 2 ^ 64 → v < 2 ^ 32
    → AllWellFormed regions m → AllWellFormed regions (queue_put_in q v m).memory × AllWellFormed regions (queue_got_in q m).memory

abbrev pub SumMapKeeps : Type 0
SumMapKeeps = (regions : List Region) (r : SumMap) (m : List ℕ) (key v : ℕ) → AllPairs AreApart regions → Contains regions (OfSumMap r) → EndsWithin (length m) (OfSumMap r) → r.at + 1 + 5 * r.cells < 2 ^ 64 → key < 2 ^ 32 → v < 2 ^ 64
    → AllWellFormed regions m → AllWellFormed regions (map_put_in r key v m).memory × AllWellFormed regions (map_removed_in r key m).memory

abbrev pub VersionOneFits : Type 0
VersionOneFits = AllPairs AreApart version_one × All (EndsWithin 1024) version_one

abbrev pub VersionOnePlain : Type 0
VersionOnePlain = (a : ℕ) → (a < 64) ⊎ (1024 ≤ a) → IsPlain version_one a

-- j counts cells from 0: the cell of number i is at j = i - 1
abbrev pub VersionOnePlaces : Type 0
VersionOnePlaces = (key j : ℕ) →
    (counter_one.at ≡ 64)
    × (head_of (list_of list_one) key ≡ 128)
    × (tag_at (list_of list_one) j ≡ 129 + 2 * j)
    × (next_at (list_of list_one) j ≡ 130 + 2 * j)
    × (head_of (hash_of hash_one) key ≡ 256 + key % 16)
    × (tag_at (hash_of hash_one) j ≡ 272 + 2 * j)
    × (next_at (hash_of hash_one) j ≡ 273 + 2 * j)
    × (tree_one.at ≡ 512)
    × (tree_tag_at tree_one j ≡ 513 + 3 * j)
    × (left_at tree_one j ≡ 514 + 3 * j)
    × (right_at tree_one j ≡ 515 + 3 * j)
