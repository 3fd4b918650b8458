-- What calls of structures leave: as many words, and the memory as it was where they wrote nothing;
-- and whether they wrote, as their reply tells.
use Rattle.std.proofs.Common.{ℕ, zero, suc, ◌≡◌, List, length, Bool, true, false, refl, ◌∙◌}
use Rattle.std.specs.Prelude.{◌==◌, leb, if◌then◌else◌, slice_index, Option, Some, None}
use Rattle.std.proofs.Math.ListN.{length-set}
use Rattle.data_effects.specs.declared.insert.Insert.TheVariants.{Present}
use Rattle.data_effects.specs.Effects.{unchanged, changed}
use Rattle.data_effects.specs.Keys.{has, free_from, less_one}
use Rattle.data_cells.specs.declared.chains.Chains.{Chains}
use Rattle.data_cells.specs.Chains.{keys, tag, position_of, inserted_by, inserted_in, removed_by, removed_in}
use Rattle.data_tree.specs.declared.tree.Tree.{Tree}
use Rattle.data_tree.specs.Trees as trees
use Rattle.data_queue.specs.declared.queue.Queue.{Queue}
use Rattle.data_queue.specs.declared.queue.Put.TheVariants as puts
use Rattle.data_queue.specs.Queues as queues
use Rattle.data_sums.specs.declared.sum_map.SumMap.{SumMap}
use Rattle.data_sums.specs.Sums as sums
use Rattle.work_script.specs.Structures.{insert_reply, bool_reply}

module _ (r : Chains) (key : ℕ) (m : List ℕ) where
  pub chain-insert-length : length (inserted_in r key m).memory ≡ length m
  chain-insert-length = by (has key (keys r m)) (free_from (tag r m) 0 r.cells)
    where
      by : (b : Bool) (o : Option ℕ) → length (if b then unchanged Present m else inserted_by r key m o).memory ≡ length m
      by true o = refl
      by false None = refl
      by false (Some c) = simp length-set

  pub chain-remove-length : length (removed_in r key m).memory ≡ length m
  chain-remove-length = by (has key (keys r m))
    where
      by : (b : Bool) → length (if b then removed_by r (position_of r m key) m else unchanged false m).memory ≡ length m
      by true = simp length-set
      by false = refl

  pub chain-insert-wrote : (inserted_in r key m).wrote ≡ (insert_reply (inserted_in r key m).reply == 1)
  chain-insert-wrote = by (has key (keys r m)) (free_from (tag r m) 0 r.cells)
    where
      by : (b : Bool) (o : Option ℕ) → (if b then unchanged Present m else inserted_by r key m o).wrote ≡ (insert_reply (if b then unchanged Present m else inserted_by r key m o).reply == 1)
      by true o = refl
      by false None = refl
      by false (Some c) = refl

  pub chain-remove-wrote : (removed_in r key m).wrote ≡ (bool_reply (removed_in r key m).reply == 1)
  chain-remove-wrote = by (has key (keys r m))
    where
      by : (b : Bool) → (if b then removed_by r (position_of r m key) m else unchanged false m).wrote ≡ (bool_reply (if b then removed_by r (position_of r m key) m else unchanged false m).reply == 1)
      by true = refl
      by false = refl

  pub chain-insert-quiet : (inserted_in r key m).wrote ≡ false → (inserted_in r key m).memory ≡ m
  chain-insert-quiet = by (has key (keys r m)) (free_from (tag r m) 0 r.cells)
    where
      by : (b : Bool) (o : Option ℕ) → (if b then unchanged Present m else inserted_by r key m o).wrote ≡ false → (if b then unchanged Present m else inserted_by r key m o).memory ≡ m
      by true o h = refl
      by false None h = refl
      by false (Some c) h = absurd cc

  pub chain-remove-quiet : (removed_in r key m).wrote ≡ false → (removed_in r key m).memory ≡ m
  chain-remove-quiet = by (has key (keys r m))
    where
      by : (b : Bool) → (if b then removed_by r (position_of r m key) m else unchanged false m).wrote ≡ false → (if b then removed_by r (position_of r m key) m else unchanged false m).memory ≡ m
      by true h = absurd cc
      by false h = refl

module _ (t : Tree) (key : ℕ) (m : List ℕ) where
  pub tree-insert-length : length (trees.inserted_in t key m).memory ≡ length m
  tree-insert-length = by (has key (trees.keys t m)) (free_from (trees.tag t m) 0 t.cells)
    where
      by : (b : Bool) (o : Option ℕ) → length (if b then unchanged Present m else trees.inserted_by t key m o).memory ≡ length m
      by true o = refl
      by false None = refl
      by false (Some c) = simp length-set

  tree-take-length : (x e : ℕ) → length (trees.taken_out t x e m) ≡ length m
  tree-take-length x e = by (slice_index m (trees.left_at t x) == 0) (slice_index m (trees.right_at t x) == 0)
    where
      by : (a b : Bool) → length (if a then trees.spliced t x e (slice_index m (trees.right_at t x)) m
          else (if b then trees.spliced t x e (slice_index m (trees.left_at t x)) m
          else trees.replaced t x (trees.leftmost t m t.cells (trees.right_at t x)) m)) ≡ length m
      by true b = simp length-set
      by false true = simp length-set
      by false false = simp length-set

  pub tree-remove-length : length (trees.removed_in t key m).memory ≡ length m
  tree-remove-length = by (has key (trees.keys t m)) (tree-take-length (less_one (trees.position_of t m key).next) (trees.position_of t m key).link)
    where
      by : (b : Bool) → length (trees.taken_out t (less_one (trees.position_of t m key).next) (trees.position_of t m key).link m) ≡ length m
          → length (if b then changed true (trees.taken_out t (less_one (trees.position_of t m key).next) (trees.position_of t m key).link m) else unchanged false m).memory ≡ length m
      by true h = h
      by false h = refl

  pub tree-insert-wrote : (trees.inserted_in t key m).wrote ≡ (insert_reply (trees.inserted_in t key m).reply == 1)
  tree-insert-wrote = by (has key (trees.keys t m)) (free_from (trees.tag t m) 0 t.cells)
    where
      by : (b : Bool) (o : Option ℕ) → (if b then unchanged Present m else trees.inserted_by t key m o).wrote ≡ (insert_reply (if b then unchanged Present m else trees.inserted_by t key m o).reply == 1)
      by true o = refl
      by false None = refl
      by false (Some c) = refl

  pub tree-remove-wrote : (trees.removed_in t key m).wrote ≡ (bool_reply (trees.removed_in t key m).reply == 1)
  tree-remove-wrote = by (has key (trees.keys t m))
    where
      by : (b : Bool) → (if b then changed true (trees.taken_out t (less_one (trees.position_of t m key).next) (trees.position_of t m key).link m) else unchanged false m).wrote
          ≡ (bool_reply (if b then changed true (trees.taken_out t (less_one (trees.position_of t m key).next) (trees.position_of t m key).link m) else unchanged false m).reply == 1)
      by true = refl
      by false = refl

  pub tree-insert-quiet : (trees.inserted_in t key m).wrote ≡ false → (trees.inserted_in t key m).memory ≡ m
  tree-insert-quiet = by (has key (trees.keys t m)) (free_from (trees.tag t m) 0 t.cells)
    where
      by : (b : Bool) (o : Option ℕ) → (if b then unchanged Present m else trees.inserted_by t key m o).wrote ≡ false → (if b then unchanged Present m else trees.inserted_by t key m o).memory ≡ m
      by true o h = refl
      by false None h = refl
      by false (Some c) h = absurd cc

  pub tree-remove-quiet : (trees.removed_in t key m).wrote ≡ false → (trees.removed_in t key m).memory ≡ m
  tree-remove-quiet = by (has key (trees.keys t m))
    where
      by : (b : Bool) → (if b then changed true (trees.taken_out t (less_one (trees.position_of t m key).next) (trees.position_of t m key).link m) else unchanged false m).wrote ≡ false
          → (if b then changed true (trees.taken_out t (less_one (trees.position_of t m key).next) (trees.position_of t m key).link m) else unchanged false m).memory ≡ m
      by true h = absurd cc
      by false h = refl

module _ (q : Queue) (m : List ℕ) where
  pub queue-put-length : (v : ℕ) → length (queues.put_in q v m).memory ≡ length m
  queue-put-length v = by (leb q.cells (queues.count q m))
    where
      by : (b : Bool) → length (if b then unchanged puts.NoRoom m else changed puts.Added (queues.enqueued q v m)).memory ≡ length m
      by true = refl
      by false = simp length-set

  pub queue-get-length : length (queues.got_in q m).memory ≡ length m
  queue-get-length = by (queues.count q m == 0)
    where
      by : (b : Bool) → length (if b then unchanged None m else changed (Some (queues.cell q m (queues.front q m))) (queues.dequeued q m)).memory ≡ length m
      by true = refl
      by false = simp length-set

  pub queue-put-quiet : (v : ℕ) → (queues.put_in q v m).wrote ≡ false → (queues.put_in q v m).memory ≡ m
  queue-put-quiet v = by (leb q.cells (queues.count q m))
    where
      by : (b : Bool) → (if b then unchanged puts.NoRoom m else changed puts.Added (queues.enqueued q v m)).wrote ≡ false → (if b then unchanged puts.NoRoom m else changed puts.Added (queues.enqueued q v m)).memory ≡ m
      by true h = refl
      by false h = absurd cc

  pub queue-get-quiet : (queues.got_in q m).wrote ≡ false → (queues.got_in q m).memory ≡ m
  queue-get-quiet = by (queues.count q m == 0)
    where
      by : (b : Bool) → (if b then unchanged None m else changed (Some (queues.cell q m (queues.front q m))) (queues.dequeued q m)).wrote ≡ false
          → (if b then unchanged None m else changed (Some (queues.cell q m (queues.front q m))) (queues.dequeued q m)).memory ≡ m
      by true h = refl
      by false h = absurd cc

module _ (r : SumMap) where
  mended-length : (key d n a : ℕ) (m : List ℕ) → length (sums.mended r key d n a m) ≡ length m
  mended-length key d zero a m = refl
  mended-length key d (suc n) a m = by (slice_index m a) (λ j. mended-length key d n (sums.side_at r m key j) (sums.raised r d j m))
    where
      one : (j : ℕ) → length (sums.raised r d j m) ≡ length m
      one j = simp length-set

      by : (v : ℕ) → ((j : ℕ) → length (sums.mended r key d n (sums.side_at r m key j) (sums.raised r d j m)) ≡ length (sums.raised r d j m))
          → length (sums.mended_by (λ j. if sums.tag r m j == suc key then sums.raised r d j m else sums.mended r key d n (sums.side_at r m key j) (sums.raised r d j m)) m v) ≡ length m
      by zero go = refl
      by (suc j) go = at (sums.tag r m j == suc key)
        where
          at : (b : Bool) → length (if b then sums.raised r d j m else sums.mended r key d n (sums.side_at r m key j) (sums.raised r d j m)) ≡ length m
          at true = one j
          at false = go j ∙ one j

  replaced-length : (key v j : ℕ) (m : List ℕ) → length (sums.replaced_in r key v j m).memory ≡ length m
  replaced-length key v j m = mended-length key (sums.step_to (sums.value r m j) v) r.cells r.at _ ∙ simp length-set

  moved-length : (x y key : ℕ) (m : List ℕ) → length (sums.moved_up r x y key m) ≡ length m
  moved-length x y key m = mended-length key (sums.step_to (sums.value r m y) 0) r.cells (sums.right_at r x) _ ∙ simp length-set

  taken-length : (x e : ℕ) (m : List ℕ) → length (sums.taken_out r x e m) ≡ length m
  taken-length x e m = by (slice_index m (sums.left_at r x) == 0) (slice_index m (sums.right_at r x) == 0)
    where
      by : (a b : Bool) → length (if a then sums.spliced r x e (slice_index m (sums.right_at r x)) m
          else (if b then sums.spliced r x e (slice_index m (sums.left_at r x)) m
          else sums.replaced_by r x (sums.leftmost r m r.cells (sums.right_at r x)) m)) ≡ length m
      by true b = simp length-set
      by false true = simp length-set
      by false false = simp length-set (moved-length x (less_one (sums.leftmost r m r.cells (sums.right_at r x)).next) (less_one (sums.leftmost r m r.cells (sums.right_at r x)).tag) m)

  pub map-put-length : (key v : ℕ) (m : List ℕ) → length (sums.put_in r key v m).memory ≡ length m
  map-put-length key v m = by (sums.position_of r m key).next (added (free_from (sums.tag r m) 0 r.cells))
    where
      added : (o : Option ℕ) → length (sums.added_by r key v m o).memory ≡ length m
      added None = refl
      added (Some c) = mended-length key v r.cells r.at _ ∙ simp length-set

      by : (n : ℕ) → length (sums.added_by r key v m (free_from (sums.tag r m) 0 r.cells)).memory ≡ length m → length (sums.put_by r key v m n).memory ≡ length m
      by zero h = h
      by (suc j) h = replaced-length key v j m

  pub map-remove-length : (key : ℕ) (m : List ℕ) → length (sums.removed_in r key m).memory ≡ length m
  map-remove-length key m = by (sums.position_of r m key).next
    where
      by : (n : ℕ) → length (sums.removed_by r key m n).memory ≡ length m
      by zero = refl
      by (suc j) = taken-length j (sums.position_of r m key).link _ ∙ replaced-length key 0 j m

  pub map-put-quiet : (key v : ℕ) (m : List ℕ) → (sums.put_in r key v m).wrote ≡ false → (sums.put_in r key v m).memory ≡ m
  map-put-quiet key v m = by (sums.position_of r m key).next (added (free_from (sums.tag r m) 0 r.cells))
    where
      added : (o : Option ℕ) → (sums.added_by r key v m o).wrote ≡ false → (sums.added_by r key v m o).memory ≡ m
      added None h = refl
      added (Some c) h = absurd cc

      by : (n : ℕ) → ((sums.put_by r key v m zero).wrote ≡ false → (sums.put_by r key v m zero).memory ≡ m) → (sums.put_by r key v m n).wrote ≡ false → (sums.put_by r key v m n).memory ≡ m
      by zero go h = go h
      by (suc j) go h = absurd cc

  pub map-remove-quiet : (key : ℕ) (m : List ℕ) → (sums.removed_in r key m).wrote ≡ false → (sums.removed_in r key m).memory ≡ m
  map-remove-quiet key m = by (sums.position_of r m key).next
    where
      by : (n : ℕ) → (sums.removed_by r key m n).wrote ≡ false → (sums.removed_by r key m n).memory ≡ m
      by zero h = refl
      by (suc j) h = absurd cc
