-- Whether a call of a queue, or of a map with sums, wrote, as its reply tells.
use Rattle.std.proofs.Common.{ℕ, zero, suc, ◌≡◌, ◌+◌, List, Bool, true, false, refl, sym, ap, arith}
use Rattle.std.proofs.lemmas.Bool.Decides.{nat_tests}
use Rattle.std.specs.Prelude.{◌==◌, leb, not, if◌then◌else◌, Option, Some, None}
use Rattle.data_effects.specs.Effects.{unchanged, changed}
use Rattle.data_effects.specs.Keys.{free_from}
use Rattle.data_queue.specs.declared.queue.Queue.{Queue}
use Rattle.data_queue.specs.declared.queue.Put.TheVariants as puts
use Rattle.data_queue.specs.Queues as queues
use Rattle.data_sums.specs.declared.sum_map.SumMap.{SumMap}
use Rattle.data_sums.specs.Sums as sums
use Rattle.work_script.specs.Structures.{bool_reply, least_reply, put_reply, map_put_reply}

pub queue-put-wrote : (q : Queue) (v : ℕ) (m : List ℕ) → (queues.put_in q v m).wrote ≡ (put_reply (queues.put_in q v m).reply == 1)
queue-put-wrote q v m = by (leb q.cells (queues.count q m))
  where
    by : (b : Bool) → (if b then unchanged puts.NoRoom m else changed puts.Added (queues.enqueued q v m)).wrote ≡ (put_reply (if b then unchanged puts.NoRoom m else changed puts.Added (queues.enqueued q v m)).reply == 1)
    by true = refl
    by false = refl

-- a value that was taken is told as one more
told : (n : ℕ) → true ≡ not (n + 1 == 0)
told n = let test : (n + 1 == 0) ≡ false = grind (arith, nat_tests) in ap not (sym test)

pub queue-get-wrote : (q : Queue) (m : List ℕ) → (queues.got_in q m).wrote ≡ not (least_reply (queues.got_in q m).reply == 0)
queue-get-wrote q m = by (queues.count q m == 0)
  where
    by : (b : Bool) → (if b then unchanged None m else changed (Some (queues.cell q m (queues.front q m))) (queues.dequeued q m)).wrote
        ≡ not (least_reply (if b then unchanged None m else changed (Some (queues.cell q m (queues.front q m))) (queues.dequeued q m)).reply == 0)
    by true = refl
    by false = told (queues.cell q m (queues.front q m))

pub map-put-wrote : (r : SumMap) (key v : ℕ) (m : List ℕ) → (sums.put_in r key v m).wrote ≡ not (map_put_reply (sums.put_in r key v m).reply == 2)
map-put-wrote r key v m = by (sums.position_of r m key).next
  where
    added : (o : Option ℕ) → (sums.added_by r key v m o).wrote ≡ not (map_put_reply (sums.added_by r key v m o).reply == 2)
    added None = refl
    added (Some c) = refl

    by : (n : ℕ) → (sums.put_by r key v m n).wrote ≡ not (map_put_reply (sums.put_by r key v m n).reply == 2)
    by zero = added (free_from (sums.tag r m) 0 r.cells)
    by (suc j) = refl

pub map-remove-wrote : (r : SumMap) (key : ℕ) (m : List ℕ) → (sums.removed_in r key m).wrote ≡ (bool_reply (sums.removed_in r key m).reply == 1)
map-remove-wrote r key m = by (sums.position_of r m key).next
  where
    by : (n : ℕ) → (sums.removed_by r key m n).wrote ≡ (bool_reply (sums.removed_by r key m n).reply == 1)
    by zero = refl
    by (suc j) = refl
