-- Regions stay well formed: the laws of the rule, from those of each structure.
use Rattle.std.proofs.Common.{ℕ, ◌≡◌, ◌≢◌, ◌<◌, ◌≤◌, ◌+◌, ◌*◌, ◌^◌, List, length, get_or, set, replicate, Bool, true, false, refl, sym, ap, ◌∙◌, arith, subst, inl, inr}
use Rattle.std.specs.Prelude.{◌⊎◌, ◌==◌, ltb, slice_index, AllPairs, Contains}
use Rattle.std.proofs.lemmas.List.{get_or-set_other, get_or_default}
use Rattle.std.proofs.lemmas.List.Elements.{All-contains}
use Rattle.std.proofs.lemmas.Bool.Decides.{nat_tests}
use Rattle.data_effects.specs.EffectLaws.{zero-at}
use Rattle.data_cells.specs.declared.chains.Chains.{Chains}
use Rattle.data_cells.specs.declared.counter.Counter.{Counter}
use Rattle.data_tree.specs.declared.tree.Tree.{Tree}
use Rattle.data_regions.specs.declared.region.Region.{Region}
use Rattle.data_regions.specs.declared.region.Region.TheVariants.{Counter as OfCounter, List as OfList, Hash as OfHash, Tree as OfTree, Queue as OfQueue, SumMap as OfSumMap}
use Rattle.data_cells.specs.Counters.{added_in}
use Rattle.data_cells.specs.Chains.{IsChains, inserted_in, removed_in}
use Rattle.data_cells.specs.Structures.{list_of, hash_of}
use Rattle.data_cells.specs.Statements.{AddsWithin, InsertsKey, RemovesKey, ZerosAreEmpty, DependsOnOwnWords, ChangesOwnWords}
use Rattle.data_tree.specs.Trees.{IsTree, inserted_in as tree_inserted_in, removed_in as tree_removed_in}
use Rattle.data_tree.specs.Statements.{InsertsKey as TreeInsertsKey, RemovesKey as TreeRemovesKey, ZerosAreEmpty as ZerosAreEmptyTrees, DependsOnOwnWords as TreeDependsOnOwnWords, ChangesOwnWords as TreeChangesOwnWords}
use Rattle.data_queue.specs.declared.queue.Queue.{Queue}
use Rattle.data_queue.specs.Queues.{IsQueue, QueueFits, put_in as queue_put_in, got_in as queue_got_in}
use Rattle.data_queue.specs.Statements.{PutsLast, GetsFirst, ZerosAreEmpty as ZerosAreEmptyQueues, DependsOnOwnWords as QueueDependsOnOwnWords, ChangesOwnWords as QueueChangesOwnWords}
use Rattle.data_sums.specs.declared.sum_map.SumMap.{SumMap}
use Rattle.data_sums.specs.Sums.{IsSumMap, HasWords, SumMapFits, value_at, put_in as map_put_in, removed_in as map_removed_in}
use Rattle.data_sums.specs.Statements.{PutsPair, RemovesWithin, WordsStay, ZerosAreEmpty as ZerosAreEmptyMaps, DependsOnOwnWords as MapDependsOnOwnWords, ChangesOwnWords as MapChangesOwnWords}
use Rattle.data_regions.specs.Regions.{start_of, size_of, WellFormed, AllWellFormed, IsOutside, IsPlain, AreApart, EndsWithin}

-- a memory of zeros
module _ (chains : ZerosAreEmpty) (trees : ZerosAreEmptyTrees) (queues : ZerosAreEmptyQueues) (maps : ZerosAreEmptyMaps) where
  zeros-region : (r : Region) (n : ℕ) → WellFormed r (replicate n 0)
  zeros-region (OfCounter c) n = tt
  zeros-region (OfList l) n = chains (list_of l) n
  zeros-region (OfHash h) n = chains (hash_of h) n
  zeros-region (OfTree t) n = trees t n
  zeros-region (OfQueue q) n = (queues q n).0
  zeros-region (OfSumMap r) n = ((maps r n).0, λ i lt. small (value_at r i) n)
    where
      small : (a n : ℕ) → slice_index (replicate n 0) a < 2 ^ 64
      small a n = let z = zero-at n a in omega arith

  pub opening-good : (regions : List Region) (words : ℕ) → AllWellFormed regions (replicate words 0)
  opening-good regions words = λ j d lt. zeros-region (get_or regions j d) words

-- where the words of a region stay, it stays well formed
module _ (chains : DependsOnOwnWords) (trees : TreeDependsOnOwnWords) (queues : QueueDependsOnOwnWords) (maps : MapDependsOnOwnWords) where
  region-same : (r : Region) (m k : List ℕ) → WellFormed r m → ((x : ℕ) → start_of r ≤ x → x < start_of r + size_of r → slice_index k x ≡ slice_index m x) → WellFormed r k
  region-same (OfCounter c) m k w same = tt
  region-same (OfList l) m k w same = chains (list_of l) m k w (λ x lo hi. same x lo (let z : x < l.at + 1 + 2 * l.cells = hi in omega arith))
  region-same (OfHash h) m k w same = chains (hash_of h) m k w (λ x lo hi. same x lo (let z : x < h.at + 16 + 2 * h.cells = hi in omega arith))
  region-same (OfTree t) m k w same = trees t m k w (λ x lo hi. same x lo (let z : x < t.at + 1 + 3 * t.cells = hi in omega arith))
  region-same (OfQueue q) m k w same = queues q m k w (λ x lo hi. same x lo (let z : x < q.at + 2 + q.cells = hi in omega arith))
  region-same (OfSumMap r) m k w same = (
    maps r m k w.0 (λ x lo hi. same x lo (let z : x < r.at + 1 + 5 * r.cells = hi in omega arith)),
    λ i lt. subst (λ v. v < 2 ^ 64) (sym (same (value_at r i) (omega arith) (omega arith))) (w.1 i lt),
  )

  pub plain-write : (regions : List Region) (m : List ℕ) (a v : ℕ) → IsPlain regions a → AllWellFormed regions m → AllWellFormed regions (set m a v)
  plain-write regions m a v plain all = λ j d lt. region-same (get_or regions j d) m (set m a v) (all j d lt) (λ x lo hi. get_or-set_other m a x v 0 (off (get_or regions j d) x (plain j d lt) lo hi))
    where
      off : (r : Region) (x : ℕ) → IsOutside a r → start_of r ≤ x → x < start_of r + size_of r → x ≢ a
      off r x (inl o) lo hi e = absurd (omega arith)
      off r x (inr o) lo hi e = absurd (omega arith)

  -- where one region changes, and stays well formed, all do
  pub one-changes : (regions : List Region) (r : Region) (m k : List ℕ) → AllPairs AreApart regions → Contains regions r
      → AllWellFormed regions m → WellFormed r k → ((x : ℕ) → IsOutside x r → slice_index k x ≡ slice_index m x) → AllWellFormed regions k
  one-changes regions r m k apart (i, lt, e) all own out = λ j d jl. by j d jl (j == i) refl (ltb j i) refl
    where
      own-at : (d : Region) → get_or regions i d ≡ r
      own-at d = get_or_default regions i d r lt ∙ e

      outside : (s : Region) (x : ℕ) → AreApart s r ⊎ AreApart r s → start_of s ≤ x → x < start_of s + size_of s → IsOutside x r
      outside s x (inl (inl a)) lo hi = inl (omega arith)
      outside s x (inl (inr a)) lo hi = inr (omega arith)
      outside s x (inr (inl a)) lo hi = inr (omega arith)
      outside s x (inr (inr a)) lo hi = inl (omega arith)

      other : (s : Region) → WellFormed s m → AreApart s r ⊎ AreApart r s → WellFormed s k
      other s w a = region-same s m k w (λ x lo hi. out x (outside s x a lo hi))

      by : (j : ℕ) (d : Region) → j < length regions → (s : Bool) → (j == i) ≡ s → (t : Bool) → ltb j i ≡ t → WellFormed (get_or regions j d) k
      by j d jl true q t p = let z : j ≡ i = grind (arith, nat_tests) in subst (λ s. WellFormed s k) (sym (ap (λ y. get_or regions y d) z ∙ own-at d)) own
      by j d jl false q true p = other (get_or regions j d) (all j d jl) (inl (subst (AreApart (get_or regions j d)) (own-at d) (apart j i d (grind (arith, nat_tests)) lt)))
      by j d jl false q false p = let n : j ≢ i = grind (arith, nat_tests) in let ge : i ≤ j = grind (arith, nat_tests) in
          other (get_or regions j d) (all j d jl) (inr (subst (λ s. AreApart s (get_or regions j d)) (own-at d) (apart i j d (omega arith) jl)))

  pub add-keeps : AddsWithin → (regions : List Region) (c : Counter) (m : List ℕ) (stripe k : ℕ) → AllPairs AreApart regions → Contains regions (OfCounter c) → stripe < c.stripes
      → AllWellFormed regions m → AllWellFormed regions (added_in c stripe k m).memory
  add-keeps within regions c m stripe k apart has lt all = one-changes regions (OfCounter c) m (added_in c stripe k m).memory apart has all tt (λ x out. within c stripe k x m (off x out))
    where
      off : (x : ℕ) → IsOutside x (OfCounter c) → x ≢ c.at + stripe
      off x (inl o) e = absurd (omega arith)
      off x (inr o) e = absurd (omega arith)

  -- the region s has the chains r
  module _ (regions : List Region) (s : Region) (r : Chains) (m : List ℕ) (key : ℕ) (well : (k : List ℕ) → IsChains r k → WellFormed s k) (start : start_of s ≡ r.at) (size : size_of s ≡ r.heads + 2 * r.cells) (some : 0 < r.heads)
      (apart : AllPairs AreApart regions) (has : Contains regions s) (ends : EndsWithin (length m) s) (w : IsChains r m) (all : AllWellFormed regions m) where
    outside-chains : (x : ℕ) → IsOutside x s → (x < r.at) ⊎ (r.at + r.heads + 2 * r.cells ≤ x)
    outside-chains x (inl o) = inl (omega arith)
    outside-chains x (inr o) = inr (omega arith)

    pub chains-keep : InsertsKey → RemovesKey → ChangesOwnWords → key < 2 ^ 32 → AllWellFormed regions (inserted_in r key m).memory × AllWellFormed regions (removed_in r key m).memory
    chains-keep inserts removes within small = (
      one-changes regions s m (inserted_in r key m).memory apart has all (well (inserted_in r key m).memory (inserts r m key w some (omega arith) small).1) (λ x o. (within r m key x w some (outside-chains x o)).0),
      one-changes regions s m (removed_in r key m).memory apart has all (well (removed_in r key m).memory (removes r m key w some (omega arith)).1) (λ x o. (within r m key x w some (outside-chains x o)).1),
    )

  pub tree-keeps : TreeInsertsKey → TreeRemovesKey → TreeChangesOwnWords → (regions : List Region) (t : Tree) (m : List ℕ) (key : ℕ)
      → AllPairs AreApart regions → Contains regions (OfTree t) → EndsWithin (length m) (OfTree t) → key < 2 ^ 32
      → AllWellFormed regions m → AllWellFormed regions (tree_inserted_in t key m).memory × AllWellFormed regions (tree_removed_in t key m).memory
  tree-keeps inserts removes within regions t m key apart has ends small all =
      let w : IsTree t m = All-contains (λ r. WellFormed r m) regions (OfTree t) all has in
      let room : t.at + 1 + 3 * t.cells ≤ length m = omega arith in (
        one-changes regions (OfTree t) m (tree_inserted_in t key m).memory apart has all (inserts t m key w small room).1 (λ x o. (within t m key x w small (outside-tree x o)).0),
        one-changes regions (OfTree t) m (tree_removed_in t key m).memory apart has all (removes t m key w small room).1 (λ x o. (within t m key x w small (outside-tree x o)).1),
      )
    where
      outside-tree : (x : ℕ) → IsOutside x (OfTree t) → (x < t.at) ⊎ (t.at + 1 + 3 * t.cells ≤ x)
      outside-tree x (inl o) = inl o
      outside-tree x (inr o) = inr (omega arith)

  pub queue-keeps : PutsLast → GetsFirst → QueueChangesOwnWords → (regions : List Region) (q : Queue) (m : List ℕ) (v : ℕ)
      → AllPairs AreApart regions → Contains regions (OfQueue q) → EndsWithin (length m) (OfQueue q) → 0 < q.cells
      → q.at + 2 + q.cells < 2 ^ 64 → v < 2 ^ 32
      → AllWellFormed regions m → AllWellFormed regions (queue_put_in q v m).memory × AllWellFormed regions (queue_got_in q m).memory
  queue-keeps puts gets within regions q m v apart has ends some below small all =
      let w : IsQueue q m = All-contains (λ r. WellFormed r m) regions (OfQueue q) all has in
      let fits : QueueFits q (length m) = (some, omega arith, below) in (
        one-changes regions (OfQueue q) m (queue_put_in q v m).memory apart has all (puts q m v w fits small).0 (λ x o. (within q m v x w fits (outside-queue x o)).0),
        one-changes regions (OfQueue q) m (queue_got_in q m).memory apart has all (gets q m w fits).0 (λ x o. (within q m v x w fits (outside-queue x o)).1),
      )
    where
      outside-queue : (x : ℕ) → IsOutside x (OfQueue q) → (x < q.at) ⊎ (q.at + 2 + q.cells ≤ x)
      outside-queue x (inl o) = inl o
      outside-queue x (inr o) = inr (omega arith)

  pub sums-keep : PutsPair → RemovesWithin → WordsStay → MapChangesOwnWords → (regions : List Region) (r : SumMap) (m : List ℕ) (key v : ℕ)
      → AllPairs AreApart regions → Contains regions (OfSumMap r) → EndsWithin (length m) (OfSumMap r) → r.at + 1 + 5 * r.cells < 2 ^ 64
      → key < 2 ^ 32 → v < 2 ^ 64
      → AllWellFormed regions m → AllWellFormed regions (map_put_in r key v m).memory × AllWellFormed regions (map_removed_in r key m).memory
  sums-keep puts removes stay within regions r m key v apart has ends below small word all =
      let w : IsSumMap r m × HasWords r m = All-contains (λ s. WellFormed s m) regions (OfSumMap r) all has in
      let fits : SumMapFits r (length m) = (omega arith, below) in
      let words = stay r m key v w.0 fits w.1 small word in (
        one-changes regions (OfSumMap r) m (map_put_in r key v m).memory apart has all ((puts r m key v w.0 fits w.1 small word).0, words.0) (λ x o. within r m key v x w.0 fits w.1 small (outside-map x o)),
        one-changes regions (OfSumMap r) m (map_removed_in r key m).memory apart has all ((removes r m key w.0 fits w.1 small).0, words.1) (λ x o. (removes r m key w.0 fits w.1 small).1 x (outside-map x o)),
      )
    where
      outside-map : (x : ℕ) → IsOutside x (OfSumMap r) → (x < r.at) ⊎ (r.at + 1 + 5 * r.cells ≤ x)
      outside-map x (inl o) = inl o
      outside-map x (inr o) = inr (omega arith)
