-- What an operation does to a memory.
use Rattle.std.specs.Prelude.{ℕ, ◌≡◌, ◌<◌, ◌+◌, ◌-◌, ◌%◌, ◌^◌, Bool, true, false, ◌||◌, not, ltb, if◌then◌else◌, List, [], ◌∷◌, length, slice_index, slice_set, All, Option, Some, None, option_map, codes}
use Rattle.stm_model.specs.Memories.{overlay, Explains, is_empty}
use Rattle.stm_model.specs.Logs.{Log}
use Rattle.work_script.specs.declared.op.Op.{Op}
use Rattle.work_script.specs.declared.op.Op.TheVariants.{Read, Write, Add, Move, Emit, Irrev, Cancel, Count, Total, ListInsert, ListRemove, ListContains, ListLength, HashInsert, HashRemove, HashContains, TreeInsert, TreeRemove, TreeContains, TreeLeast, QueuePut, QueueGet, MapPut, MapRemove, MapGet, MapSum}
use Rattle.data_regions.specs.declared.region.Region.{Region}
use Rattle.data_effects.specs.Effects as effects
use Rattle.data_regions.specs.declared.region.Region.TheVariants.{Counter as OfCounter, List as OfList, Hash as OfHash, Tree as OfTree, Queue as OfQueue, SumMap as OfSumMap}
use Rattle.data_regions.specs.Regions.{IsPlain}
use Rattle.data_cells.specs.Counters.{added_in, total_in}
use Rattle.data_cells.specs.Chains.{contained_in, inserted_in, removed_in, counted_in}
use Rattle.data_cells.specs.Structures.{list_of, hash_of}
use Rattle.data_tree.specs.Trees.{contained_in as tree_contained_in, inserted_in as tree_inserted_in, removed_in as tree_removed_in, least_in}
use Rattle.data_queue.specs.Queues.{put_in, got_in}
use Rattle.data_sums.specs.Sums.{put_in as map_put_in, removed_in as map_removed_in, got_in as map_got_in, summed_in}
use Rattle.data_regions.specs.declared.region.Structure.{Structure}
use Rattle.data_regions.specs.declared.region.Structure.TheVariants as structures
use Rattle.work_script.specs.Structures.{HasRegion, counter_in, list_in, hash_in, tree_in, queue_in, sum_map_in, insert_reply, bool_reply, least_reply, put_reply, map_put_reply, value_reply}

-- what an operation replies, what it emits, the memory after it, and whether it wrote
pub record Effect : Type 0 where
  pub reply : ℕ
  pub emits : List ℕ
  pub memory : List ℕ
  pub wrote : Bool

-- a reply that leaves the memory
abbrev pub replies : ℕ → List ℕ → Effect
replies r m = record { reply = r; emits = []; memory = m; wrote = false }

-- the value goes to the address, and is the reply
abbrev pub stores : ℕ → ℕ → List ℕ → Effect
stores a v m = record { reply = v; emits = []; memory = slice_set m a v; wrote = true }

-- a less k, and then b plus k
abbrev pub moved : ℕ → ℕ → ℕ → List ℕ → List ℕ
moved a b k m =
    let less : List ℕ = slice_set m a (slice_index m a - k) in
    slice_set less b ((slice_index less b + k) % 2 ^ 64)

-- nothing where a has less than k
abbrev pub moves : ℕ → ℕ → ℕ → List ℕ → Effect
moves a b k m = if ltb (slice_index m a) k then replies 0 m else record { reply = 1; emits = []; memory = moved a b k m; wrote = true }

-- the value is the reply, and goes to the emits
abbrev pub emits_word : ℕ → List ℕ → Effect
emits_word v m = record { reply = v; emits = v ∷ []; memory = m; wrote = false }

-- the effect of a structure's call, with its reply as a number
abbrev pub replied_as : {A : Type 0} → (A → ℕ) → effects.Effect A → Effect
replied_as code e = record { reply = code e.reply; emits = []; memory = e.memory; wrote = e.wrote }

-- THE TABLE; a cancel is meant here as in a transaction that commits
abbrev pub effect_of : List Region → Op → List ℕ → Effect
effect_of regions (Read a) m = replies (slice_index m a) m
effect_of regions (Write a v) m = stores a v m
effect_of regions (Add a k) m = stores a ((slice_index m a + k) % 2 ^ 64) m
effect_of regions (Move a b k) m = moves a b k m
effect_of regions (Emit a) m = emits_word (slice_index m a) m
effect_of regions Irrev m = replies 1 m
effect_of regions Cancel m = replies 0 m
effect_of regions (Count r stripe k) m = replied_as (λ n. n) (added_in (counter_in regions r) stripe k m)
effect_of regions (Total r) m = replied_as (λ n. n) (total_in (counter_in regions r) m)
effect_of regions (ListInsert r key) m = replied_as insert_reply (inserted_in (list_of (list_in regions r)) key m)
effect_of regions (ListRemove r key) m = replied_as bool_reply (removed_in (list_of (list_in regions r)) key m)
effect_of regions (ListContains r key) m = replied_as bool_reply (contained_in (list_of (list_in regions r)) key m)
effect_of regions (ListLength r) m = replied_as (λ n. n) (counted_in (list_of (list_in regions r)) m)
effect_of regions (HashInsert r key) m = replied_as insert_reply (inserted_in (hash_of (hash_in regions r)) key m)
effect_of regions (HashRemove r key) m = replied_as bool_reply (removed_in (hash_of (hash_in regions r)) key m)
effect_of regions (HashContains r key) m = replied_as bool_reply (contained_in (hash_of (hash_in regions r)) key m)
effect_of regions (TreeInsert r key) m = replied_as insert_reply (tree_inserted_in (tree_in regions r) key m)
effect_of regions (TreeRemove r key) m = replied_as bool_reply (tree_removed_in (tree_in regions r) key m)
effect_of regions (TreeContains r key) m = replied_as bool_reply (tree_contained_in (tree_in regions r) key m)
effect_of regions (TreeLeast r) m = replied_as least_reply (least_in (tree_in regions r) m)
effect_of regions (QueuePut r v) m = replied_as put_reply (put_in (queue_in regions r) v m)
effect_of regions (QueueGet r) m = replied_as least_reply (got_in (queue_in regions r) m)
effect_of regions (MapPut r key v) m = replied_as map_put_reply (map_put_in (sum_map_in regions r) key v m)
effect_of regions (MapRemove r key) m = replied_as bool_reply (map_removed_in (sum_map_in regions r) key m)
effect_of regions (MapGet r key) m = replied_as value_reply (map_got_in (sum_map_in regions r) key m)
effect_of regions (MapSum r lo hi) m = replied_as (λ n. n) (summed_in (sum_map_in regions r) lo hi m)

-- what an operation with this reply emits
abbrev pub emits_of : Op → ℕ → List ℕ
emits_of (Emit a) reply = reply ∷ []
emits_of op reply = []

-- an operation that a memory of so many words and these regions takes: a plain one is on words of no region
abbrev pub OpFits : List Region → ℕ → Op → Type 0
OpFits regions words (Read a) = (a < words) × IsPlain regions a
OpFits regions words (Write a v) = (a < words) × IsPlain regions a
OpFits regions words (Add a k) = (a < words) × IsPlain regions a
OpFits regions words (Move a b k) = (a < words) × IsPlain regions a × (b < words) × IsPlain regions b
OpFits regions words (Emit a) = (a < words) × IsPlain regions a
OpFits regions words Irrev = Unit {0}
OpFits regions words Cancel = Unit {0}
OpFits regions words (Count r stripe k) = HasRegion regions words (OfCounter (counter_in regions r)) × (stripe < (counter_in regions r).stripes)
OpFits regions words (Total r) = HasRegion regions words (OfCounter (counter_in regions r)) × (0 < (counter_in regions r).stripes)
OpFits regions words (ListInsert r key) = HasRegion regions words (OfList (list_in regions r)) × (key < 2 ^ 32)
OpFits regions words (ListRemove r key) = HasRegion regions words (OfList (list_in regions r)) × (key < 2 ^ 32)
OpFits regions words (ListContains r key) = HasRegion regions words (OfList (list_in regions r)) × (key < 2 ^ 32)
OpFits regions words (ListLength r) = HasRegion regions words (OfList (list_in regions r))
OpFits regions words (HashInsert r key) = HasRegion regions words (OfHash (hash_in regions r)) × (key < 2 ^ 32)
OpFits regions words (HashRemove r key) = HasRegion regions words (OfHash (hash_in regions r)) × (key < 2 ^ 32)
OpFits regions words (HashContains r key) = HasRegion regions words (OfHash (hash_in regions r)) × (key < 2 ^ 32)
OpFits regions words (TreeInsert r key) = HasRegion regions words (OfTree (tree_in regions r)) × (key < 2 ^ 32)
OpFits regions words (TreeRemove r key) = HasRegion regions words (OfTree (tree_in regions r)) × (key < 2 ^ 32)
OpFits regions words (TreeContains r key) = HasRegion regions words (OfTree (tree_in regions r)) × (key < 2 ^ 32)
OpFits regions words (TreeLeast r) = HasRegion regions words (OfTree (tree_in regions r))
OpFits regions words (QueuePut r v) = HasRegion regions words (OfQueue (queue_in regions r)) × (0 < (queue_in regions r).cells) × (v < 2 ^ 32)
OpFits regions words (QueueGet r) = HasRegion regions words (OfQueue (queue_in regions r)) × (0 < (queue_in regions r).cells)
OpFits regions words (MapPut r key v) = HasRegion regions words (OfSumMap (sum_map_in regions r)) × (key < 2 ^ 32) × (v < 2 ^ 64)
OpFits regions words (MapRemove r key) = HasRegion regions words (OfSumMap (sum_map_in regions r)) × (key < 2 ^ 32)
OpFits regions words (MapGet r key) = HasRegion regions words (OfSumMap (sum_map_in regions r)) × (key < 2 ^ 32)
OpFits regions words (MapSum r lo hi) = HasRegion regions words (OfSumMap (sum_map_in regions r)) × (lo < 2 ^ 32) × (hi < 2 ^ 32)

abbrev pub is_cancel : Op → Bool
is_cancel Cancel = true
is_cancel op = false

abbrev pub is_irrev : Op → Bool
is_irrev Irrev = true
is_irrev op = false

-- the operation works on a structure
abbrev pub of_structure : Op → Bool
of_structure (Read a) = false
of_structure (Write a v) = false
of_structure (Add a k) = false
of_structure (Move a b k) = false
of_structure (Emit a) = false
of_structure Irrev = false
of_structure Cancel = false
of_structure op = true

-- the operation with another key, where it takes one alone
abbrev pub with_key : ℕ → Op → Op
with_key key (ListInsert r old) = ListInsert r key
with_key key (ListRemove r old) = ListRemove r key
with_key key (ListContains r old) = ListContains r key
with_key key (HashInsert r old) = HashInsert r key
with_key key (HashRemove r old) = HashRemove r key
with_key key (HashContains r old) = HashContains r key
with_key key (TreeInsert r old) = TreeInsert r key
with_key key (TreeRemove r old) = TreeRemove r key
with_key key (TreeContains r old) = TreeContains r key
with_key key (QueuePut r old) = QueuePut r key
with_key key (MapRemove r old) = MapRemove r key
with_key key (MapGet r old) = MapGet r key
with_key key (Read a) = Read a
with_key key (Write a v) = Write a v
with_key key (Add a k) = Add a k
with_key key (Move a b k) = Move a b k
with_key key (Emit a) = Emit a
with_key key Irrev = Irrev
with_key key Cancel = Cancel
with_key key (Count r stripe k) = Count r stripe k
with_key key (Total r) = Total r
with_key key (ListLength r) = ListLength r
with_key key (TreeLeast r) = TreeLeast r
with_key key (QueueGet r) = QueueGet r
with_key key (MapPut r k v) = MapPut r k v
with_key key (MapSum r lo hi) = MapSum r lo hi

-- the operation on another region, where it works on a structure
abbrev pub with_region : ℕ → Op → Op
with_region r (Count old stripe k) = Count r stripe k
with_region r (Total old) = Total r
with_region r (ListInsert old key) = ListInsert r key
with_region r (ListRemove old key) = ListRemove r key
with_region r (ListContains old key) = ListContains r key
with_region r (ListLength old) = ListLength r
with_region r (HashInsert old key) = HashInsert r key
with_region r (HashRemove old key) = HashRemove r key
with_region r (HashContains old key) = HashContains r key
with_region r (TreeInsert old key) = TreeInsert r key
with_region r (TreeRemove old key) = TreeRemove r key
with_region r (TreeContains old key) = TreeContains r key
with_region r (TreeLeast old) = TreeLeast r
with_region r (QueuePut old v) = QueuePut r v
with_region r (QueueGet old) = QueueGet r
with_region r (MapPut old key v) = MapPut r key v
with_region r (MapRemove old key) = MapRemove r key
with_region r (MapGet old key) = MapGet r key
with_region r (MapSum old lo hi) = MapSum r lo hi
with_region r (Read a) = Read a
with_region r (Write a v) = Write a v
with_region r (Add a k) = Add a k
with_region r (Move a b k) = Move a b k
with_region r (Emit a) = Emit a
with_region r Irrev = Irrev
with_region r Cancel = Cancel

-- the structure that it works on, and the number of its region
abbrev pub structure_in : Op → Option (Structure × ℕ)
structure_in (Count r stripe k) = Some (structures.Counter, r)
structure_in (Total r) = Some (structures.Counter, r)
structure_in (ListInsert r key) = Some (structures.List, r)
structure_in (ListRemove r key) = Some (structures.List, r)
structure_in (ListContains r key) = Some (structures.List, r)
structure_in (ListLength r) = Some (structures.List, r)
structure_in (HashInsert r key) = Some (structures.Hash, r)
structure_in (HashRemove r key) = Some (structures.Hash, r)
structure_in (HashContains r key) = Some (structures.Hash, r)
structure_in (TreeInsert r key) = Some (structures.Tree, r)
structure_in (TreeRemove r key) = Some (structures.Tree, r)
structure_in (TreeContains r key) = Some (structures.Tree, r)
structure_in (TreeLeast r) = Some (structures.Tree, r)
structure_in (QueuePut r v) = Some (structures.Queue, r)
structure_in (QueueGet r) = Some (structures.Queue, r)
structure_in (MapPut r key v) = Some (structures.SumMap, r)
structure_in (MapRemove r key) = Some (structures.SumMap, r)
structure_in (MapGet r key) = Some (structures.SumMap, r)
structure_in (MapSum r lo hi) = Some (structures.SumMap, r)
structure_in op = None

abbrev pub structure_kind : Op → Option Structure
structure_kind op = option_map (λ place. place.0) (structure_in op)

-- an operation's word
abbrev pub op_name : Op → List ℕ
op_name (Read a) = codes "read"
op_name (Write a v) = codes "write"
op_name (Add a k) = codes "add"
op_name (Move a b k) = codes "move"
op_name (Emit a) = codes "emit"
op_name Irrev = codes "irrev"
op_name Cancel = codes "cancel"
op_name (Count r stripe k) = codes "count"
op_name (Total r) = codes "total"
op_name (ListInsert r key) = codes "ladd"
op_name (ListRemove r key) = codes "ldel"
op_name (ListContains r key) = codes "lhas"
op_name (ListLength r) = codes "llen"
op_name (HashInsert r key) = codes "hadd"
op_name (HashRemove r key) = codes "hdel"
op_name (HashContains r key) = codes "hhas"
op_name (TreeInsert r key) = codes "tadd"
op_name (TreeRemove r key) = codes "tdel"
op_name (TreeContains r key) = codes "thas"
op_name (TreeLeast r) = codes "tmin"
op_name (QueuePut r v) = codes "qput"
op_name (QueueGet r) = codes "qget"
op_name (MapPut r key v) = codes "mput"
op_name (MapRemove r key) = codes "mdel"
op_name (MapGet r key) = codes "mget"
op_name (MapSum r lo hi) = codes "msum"

abbrev pub ScriptFits : List Region → ℕ → List Op → Type 0
ScriptFits regions words ops = All (OpFits regions words) ops

-- over the memory m under the log l an operation had this effect, and left the log k
pub record Does (effect : List ℕ → Effect) (m : List ℕ) (l : Log) (reply : ℕ) (k : Log) : Type 0 where
  pub explained : Explains m l.reads
  pub replied : reply ≡ (effect (overlay m l.writes)).reply
  pub left : overlay m k.writes ≡ (effect (overlay m l.writes)).memory
  pub wrote : not (is_empty k.writes) ≡ not (is_empty l.writes) || (effect (overlay m l.writes)).wrote

-- it did so over every good memory that explains the log
abbrev pub DoesOver : (List ℕ → Type 0) → ℕ → (List ℕ → Effect) → Log → ℕ → Log → Type 0
DoesOver good words effect l reply k = (m : List ℕ) → good m → length m ≡ words → Explains m k.reads → Does effect m l reply k

-- an operation that never writes
abbrev pub OnlyReads : Op → Type 0
OnlyReads (Read a) = Unit {0}
OnlyReads (Emit a) = Unit {0}
OnlyReads Irrev = Unit {0}
OnlyReads Cancel = Unit {0}
OnlyReads (Total r) = Unit {0}
OnlyReads (ListContains r key) = Unit {0}
OnlyReads (ListLength r) = Unit {0}
OnlyReads (HashContains r key) = Unit {0}
OnlyReads (TreeContains r key) = Unit {0}
OnlyReads (TreeLeast r) = Unit {0}
OnlyReads (MapGet r key) = Unit {0}
OnlyReads (MapSum r lo hi) = Unit {0}
OnlyReads op = ⊥
