-- An operation leaves each region well formed, by the laws of each structure's calls.
use Rattle.std.proofs.Common.{ℕ, ◌≡◌, ◌+◌, ◌*◌, ◌-◌, ◌%◌, ◌^◌, ◌<◌, arith, List, [], length, get_or, set, Bool, true, false, sym, subst}
use Rattle.std.specs.Prelude.{ltb, if◌then◌else◌}
use Rattle.std.proofs.lemmas.List.Elements.{All-contains}
use Rattle.data_regions.specs.declared.region.Region.{Region}
use Rattle.data_regions.specs.declared.region.Region.TheVariants.{List as OfList, Hash as OfHash, Tree as OfTree, Queue as OfQueue, SumMap as OfSumMap}
use Rattle.data_regions.specs.Regions.{AllWellFormed, EndsWithin, IsPlain, start_of, size_of}
use Rattle.data_regions.specs.Statements.{PlainWriteKeeps, AddKeeps, ListKeeps, HashKeeps, TreeKeeps, QueueKeeps, SumMapKeeps}
use Rattle.work_script.specs.declared.op.Op.TheVariants.{Read, Write, Add, Move, Emit, Irrev, Cancel, Count, Total, ListInsert, ListRemove, ListContains, ListLength, HashInsert, HashRemove, HashContains, TreeInsert, TreeRemove, TreeContains, TreeLeast, QueuePut, QueueGet, MapPut, MapRemove, MapGet, MapSum}
use Rattle.work_script.specs.Operations.{replies, moved, moves}
use Rattle.work_script.specs.Structures.{HasRegion, counter_in, list_in, hash_in, tree_in, queue_in, sum_map_in}
use Rattle.work_script.specs.Statements.{OperationsKeepRegions}

-- a region of so many words ends within a memory that has them
ends-within : (regions : List Region) (words : ℕ) (r : Region) (m : List ℕ) → HasRegion regions words r → length m ≡ words → EndsWithin (length m) r
ends-within regions words r m (laid, has) len = subst (λ n. EndsWithin n r) (sym len) (All-contains (EndsWithin words) regions r laid.within has)

-- and below 2^64
queue-below : (regions : List Region) (words n : ℕ) → HasRegion regions words (OfQueue (queue_in regions n)) → (queue_in regions n).at + 2 + (queue_in regions n).cells < 2 ^ 64
queue-below regions words n (laid, has) = let z = All-contains (λ x. start_of x + size_of x < 2 ^ 64) regions (OfQueue (queue_in regions n)) laid.below has in omega arith

map-below : (regions : List Region) (words n : ℕ) → HasRegion regions words (OfSumMap (sum_map_in regions n)) → (sum_map_in regions n).at + 1 + 5 * (sum_map_in regions n).cells < 2 ^ 64
map-below regions words n (laid, has) = let z = All-contains (λ x. start_of x + size_of x < 2 ^ 64) regions (OfSumMap (sum_map_in regions n)) laid.below has in omega arith

module _ (plain : PlainWriteKeeps) (add : AddKeeps) (list : ListKeeps) (hash : HashKeeps) (tree : TreeKeeps) (queue : QueueKeeps) (sums : SumMapKeeps) where
  keeps-moves : (regions : List Region) (m : List ℕ) (a b k : ℕ) → IsPlain regions a → IsPlain regions b → AllWellFormed regions m → AllWellFormed regions (moves a b k m).memory
  keeps-moves regions m a b k from onto g = by (ltb (get_or m a 0) k)
    where
      by : (t : Bool) → AllWellFormed regions (if t then replies 0 m else record { reply = 1; emits = []; memory = moved a b k m; wrote = true }).memory
      by true = g
      by false = plain regions (set m a (get_or m a 0 - k)) b ((get_or (set m a (get_or m a 0 - k)) b 0 + k) % 2 ^ 64) onto (plain regions m a (get_or m a 0 - k) from g)

  pub operation-keeps : OperationsKeepRegions
  operation-keeps regions words (Read a) fits = λ m g len. g
  operation-keeps regions words (Write a v) fits = λ m g len. plain regions m a v fits.1 g
  operation-keeps regions words (Add a k) fits = λ m g len. plain regions m a ((get_or m a 0 + k) % 2 ^ 64) fits.1 g
  operation-keeps regions words (Move a b k) fits = λ m g len. keeps-moves regions m a b k fits.1 fits.3 g
  operation-keeps regions words (Emit a) fits = λ m g len. g
  operation-keeps regions words Irrev fits = λ m g len. g
  operation-keeps regions words Cancel fits = λ m g len. g
  operation-keeps regions words (Count region stripe k) fits = λ m g len. add regions (counter_in regions region) m stripe k fits.0.0.apart fits.0.1 fits.1 g
  operation-keeps regions words (Total region) fits = λ m g len. g
  operation-keeps regions words (ListInsert region key) fits =
      λ m g len.
      (list regions (list_in regions region) m key fits.0.0.apart fits.0.1
      (ends-within regions words (OfList (list_in regions region)) m fits.0 len) fits.1 g).0
  operation-keeps regions words (ListRemove region key) fits =
      λ m g len.
      (list regions (list_in regions region) m key fits.0.0.apart fits.0.1
      (ends-within regions words (OfList (list_in regions region)) m fits.0 len) fits.1 g).1
  operation-keeps regions words (ListContains region key) fits = λ m g len. g
  operation-keeps regions words (ListLength region) fits = λ m g len. g
  operation-keeps regions words (HashInsert region key) fits =
      λ m g len.
      (hash regions (hash_in regions region) m key fits.0.0.apart fits.0.1
      (ends-within regions words (OfHash (hash_in regions region)) m fits.0 len) fits.1 g).0
  operation-keeps regions words (HashRemove region key) fits =
      λ m g len.
      (hash regions (hash_in regions region) m key fits.0.0.apart fits.0.1
      (ends-within regions words (OfHash (hash_in regions region)) m fits.0 len) fits.1 g).1
  operation-keeps regions words (HashContains region key) fits = λ m g len. g
  operation-keeps regions words (TreeInsert region key) fits =
      λ m g len.
      (tree regions (tree_in regions region) m key fits.0.0.apart fits.0.1
      (ends-within regions words (OfTree (tree_in regions region)) m fits.0 len) fits.1 g).0
  operation-keeps regions words (TreeRemove region key) fits =
      λ m g len.
      (tree regions (tree_in regions region) m key fits.0.0.apart fits.0.1
      (ends-within regions words (OfTree (tree_in regions region)) m fits.0 len) fits.1 g).1
  operation-keeps regions words (TreeContains region key) fits = λ m g len. g
  operation-keeps regions words (TreeLeast region) fits = λ m g len. g
  operation-keeps regions words (QueuePut region v) fits =
      λ m g len.
      (queue regions (queue_in regions region) m v fits.0.0.apart fits.0.1
      (ends-within regions words (OfQueue (queue_in regions region)) m fits.0 len) fits.1 (queue-below regions words region fits.0) fits.2
      g).0
  operation-keeps regions words (QueueGet region) fits =
      λ m g len.
      (queue regions (queue_in regions region) m 0 fits.0.0.apart fits.0.1
      (ends-within regions words (OfQueue (queue_in regions region)) m fits.0 len) fits.1 (queue-below regions words region fits.0)
      (omega arith) g).1
  operation-keeps regions words (MapPut region key v) fits =
      λ m g len.
      (sums regions (sum_map_in regions region) m key v fits.0.0.apart fits.0.1
      (ends-within regions words (OfSumMap (sum_map_in regions region)) m fits.0 len) (map-below regions words region fits.0) fits.1 fits.2
      g).0
  operation-keeps regions words (MapRemove region key) fits =
      λ m g len.
      (sums regions (sum_map_in regions region) m key 0 fits.0.0.apart fits.0.1
      (ends-within regions words (OfSumMap (sum_map_in regions region)) m fits.0 len) (map-below regions words region fits.0) fits.1
      (omega arith) g).1
  operation-keeps regions words (MapGet region key) fits = λ m g len. g
  operation-keeps regions words (MapSum region lo hi) fits = λ m g len. g
