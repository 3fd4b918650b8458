-- What is well formed in a memory of regions.
use Rattle.std.proofs.Common.{ℕ, ◌≡◌, ◌+◌, ◌<◌, ◌^◌, arith, List, sym, subst}
use Rattle.std.proofs.lemmas.List.Elements.{All-contains}
use Rattle.stm_model.specs.Memories.{overlay}
use Rattle.stm_model.specs.Logs.{Log}
use Rattle.data_effects.specs.Effects.{Under}
use Rattle.data_cells.specs.declared.list.List.{List as KeyList}
use Rattle.data_cells.specs.declared.hash.Hash.{Hash}
use Rattle.data_cells.specs.Chains.{IsChains}
use Rattle.data_cells.specs.Structures.{list_of, hash_of}
use Rattle.data_tree.specs.declared.tree.Tree.{Tree}
use Rattle.data_tree.specs.Trees.{IsTree}
use Rattle.data_queue.specs.declared.queue.Queue.{Queue}
use Rattle.data_queue.specs.Queues.{IsQueue, QueueFits}
use Rattle.data_sums.specs.declared.sum_map.SumMap.{SumMap}
use Rattle.data_sums.specs.Sums.{IsSumMap, SumMapFits}
use Rattle.data_regions.specs.declared.region.Region.{Region}
use Rattle.data_regions.specs.declared.region.Region.TheVariants.{List as OfList, Hash as OfHash, Tree as OfTree, Queue as OfQueue, SumMap as OfSumMap}
use Rattle.data_regions.specs.Regions.{start_of, size_of, EndsWithin, WellFormed, AllWellFormed}
use Rattle.work_script.specs.Structures.{HasRegion, list_in, hash_in, tree_in, queue_in, sum_map_in}

-- a region ends within a memory of so many words, and below 2^64
ends : (regions : List Region) (words : ℕ) (r : Region) → HasRegion regions words r → EndsWithin words r × (start_of r + size_of r < 2 ^ 64)
ends regions words r (laid, has) = (All-contains (EndsWithin words) regions r laid.within has, All-contains (λ x. start_of x + size_of x < 2 ^ 64) regions r laid.below has)

pub queue-fits : (regions : List Region) (words n : ℕ) (x : Queue) → x ≡ queue_in regions n → HasRegion regions words (OfQueue (queue_in regions n)) → 0 < (queue_in regions n).cells → QueueFits x words
queue-fits regions words n x is has some = let e = ends regions words (OfQueue (queue_in regions n)) has in let a = e.0 in let b = e.1 in subst (λ (y : Queue). QueueFits y words) (sym is) (some, omega arith, omega arith)

pub map-fits : (regions : List Region) (words n : ℕ) (x : SumMap) → x ≡ sum_map_in regions n → HasRegion regions words (OfSumMap (sum_map_in regions n)) → SumMapFits x words
map-fits regions words n x is has = let e = ends regions words (OfSumMap (sum_map_in regions n)) has in let a = e.0 in let b = e.1 in subst (λ (y : SumMap). SumMapFits y words) (sym is) (omega arith, omega arith)

module _ (good : List ℕ → Type 0) (words : ℕ) (l : Log) (regions : List Region) (under : Under good words l (AllWellFormed regions)) where
  -- what is well formed for all regions is so for one of them
  well-one : (r : Region) → HasRegion regions words r → Under good words l (WellFormed r)
  well-one r has = λ m fine len ex. All-contains (λ s. WellFormed s (overlay m l.writes)) regions r (under m fine len ex) has.1

  pub list-well : (n : ℕ) (x : KeyList) → x ≡ list_in regions n → HasRegion regions words (OfList (list_in regions n)) → Under good words l (IsChains (list_of x))
  list-well n x is has = subst (λ (y : KeyList). Under good words l (IsChains (list_of y))) (sym is) (well-one (OfList (list_in regions n)) has)

  pub hash-well : (n : ℕ) (x : Hash) → x ≡ hash_in regions n → HasRegion regions words (OfHash (hash_in regions n)) → Under good words l (IsChains (hash_of x))
  hash-well n x is has = subst (λ (y : Hash). Under good words l (IsChains (hash_of y))) (sym is) (well-one (OfHash (hash_in regions n)) has)

  pub tree-well : (n : ℕ) (x : Tree) → x ≡ tree_in regions n → HasRegion regions words (OfTree (tree_in regions n)) → Under good words l (IsTree x)
  tree-well n x is has = subst (λ (y : Tree). Under good words l (IsTree y)) (sym is) (well-one (OfTree (tree_in regions n)) has)

  pub queue-well : (n : ℕ) (x : Queue) → x ≡ queue_in regions n → HasRegion regions words (OfQueue (queue_in regions n)) → Under good words l (IsQueue x)
  queue-well n x is has = subst (λ (y : Queue). Under good words l (IsQueue y)) (sym is) (well-one (OfQueue (queue_in regions n)) has)

  pub map-well : (n : ℕ) (x : SumMap) → x ≡ sum_map_in regions n → HasRegion regions words (OfSumMap (sum_map_in regions n)) → Under good words l (IsSumMap x)
  map-well n x is has = subst (λ (y : SumMap). Under good words l (IsSumMap y)) (sym is) (λ m fine len ex. (well-one (OfSumMap (sum_map_in regions n)) has m fine len ex).0)
