-- The workers of all callers, one after the other.
use Rattle.std.proofs.Common.{ℕ, zero, suc, ◌≡◌, ◌<◌, ◌≤◌, ◌+◌, List, [], ◌∷◌, ◌++◌, length, get_or, set, refl, ap, arith, subst}
use Rattle.std.proofs.lemmas.List.{length-map, get_or-map}
use Rattle.work_profile.specs.declared.policy.Policy.{Policy}
use Rattle.stm_rule.specs.declared.stm.Stm.{Stm}
use Rattle.crossbeam_utils.specs.declared.cache_padded.CachePadded.{CachePadded}
use Rattle.stm_model.specs.declared.alg.Alg.{Alg}
use Rattle.data_regions.specs.declared.region.Region.{Region}
use Rattle.work_script.specs.declared.workload.Item.{Item}
use Rattle.stm_rule.specs.Callers.{Handle}
use Rattle.work_worker.specs.declared.worker.Worker.{Worker}
use Rattle.work_driver.specs.declared.workers.Runner.{Runner}
use Rattle.work_trace.specs.Adapting.{policy_for}
use Rattle.work_driver.specs.AllWorkers.{AreMade, Finished, worker_in, workers_in}
use Rattle.work_worker.specs.Workers.{IsFreshWorker}

pub made-length : {K : Type 0} (items_for : ℕ → List Item) (rs : List Region) (alg : Alg) (policy : Policy) (n : ℕ) (ds : List (Handle K))
    (ws : List (Worker K)) → AreMade items_for rs alg policy n ds ws → length ws ≡ length ds
made-length items_for rs alg policy n [] [] m = refl
made-length items_for rs alg policy n [] (w ∷ ws) m = absurd m
made-length items_for rs alg policy n (d ∷ ds) [] m = absurd m
made-length items_for rs alg policy n (d ∷ ds) (w ∷ ws) m = ap suc (made-length items_for rs alg policy (suc n) ds ws m.1)

-- one worker more
pub made-more : {K : Type 0} (items_for : ℕ → List Item) (rs : List Region) (alg : Alg) (policy : Policy) (n : ℕ) (ds : List (Handle K)) (ws : List (Worker K)) (d : Handle K) (w : Worker K)
    → AreMade items_for rs alg policy n ds ws → IsFreshWorker d (items_for (n + length ds)) rs alg (policy_for policy (n + length ds)) w → AreMade items_for rs alg policy n (ds ++ d ∷ []) (ws ++ w ∷ [])
made-more items_for rs alg policy n [] [] d w m s = (let here : n + 0 ≡ n = omega arith in subst (λ k. IsFreshWorker d (items_for k) rs alg (policy_for policy k) w) here s, tt)
made-more items_for rs alg policy n [] (x ∷ ws) d w m s = absurd m
made-more items_for rs alg policy n (y ∷ ds) [] d w m s = absurd m
made-more items_for rs alg policy n (y ∷ ds) (x ∷ ws) d w m s =
    let next : n + suc (length ds) ≡ suc n + length ds = omega arith in
    (m.0, made-more items_for rs alg policy (suc n) ds ws d w m.1 (subst (λ k. IsFreshWorker d (items_for k) rs alg (policy_for policy k) w) next s))

-- a worker for each descriptor by its place
pub made-of : {K : Type 0} (items_for : ℕ → List Item) (rs : List Region) (alg : Alg) (policy : Policy) (n : ℕ) (ds : List (Handle K)) (ws : List (Worker K)) → length ws ≡ length ds
    → ((k : ℕ) (d : Handle K) (w : Worker K) → k < length ds → IsFreshWorker (get_or ds k d) (items_for (n + k)) rs alg (policy_for policy (n + k)) (get_or ws k w)) → AreMade items_for rs alg policy n ds ws
made-of {K = K} items_for rs alg policy n [] [] len each = tt
made-of {K = K} items_for rs alg policy n [] (w ∷ ws) len each = absurd (omega (arith, len))
made-of {K = K} items_for rs alg policy n (d ∷ ds) [] len each = absurd (omega (arith, len))
made-of {K = K} items_for rs alg policy n (d ∷ ds) (w ∷ ws) len each =
    let at : ℕ → Handle K → Worker K → Type 0 = λ k d' w'. IsFreshWorker d' (items_for k) rs alg (policy_for policy k) w' in
    let here : n + 0 ≡ n = omega arith in (
      subst (λ k. at k d w) here (each 0 d w (omega arith)),
      made-of items_for rs alg policy (suc n) ds ws (omega (arith, len)) (λ k d' w' lt.
          (let next : n + suc k ≡ suc n + k = omega arith in
          subst (λ m. at m (get_or ds k d') (get_or ws k w')) next (each (suc k) d' w' (omega (arith, lt))))),
    )

-- the same items under another name
pub made-same : {K : Type 0} (items_for other : ℕ → List Item) (rs : List Region) (alg : Alg) (policy : Policy) (callers n : ℕ) (ds : List (Handle K)) (ws : List (Worker K))
    → ((k : ℕ) → k < callers → items_for k ≡ other k) → n + length ds ≤ callers → AreMade items_for rs alg policy n ds ws → AreMade other rs alg policy n ds ws
made-same items_for other rs alg policy callers n [] [] same le m = tt
made-same items_for other rs alg policy callers n [] (w ∷ ws) same le m = absurd m
made-same items_for other rs alg policy callers n (d ∷ ds) [] same le m = absurd m
made-same items_for other rs alg policy callers n (d ∷ ds) (w ∷ ws) same le m =
    (subst (λ k. IsFreshWorker d k rs alg (policy_for policy n) w) (same n (omega arith)) m.0, made-same items_for other rs alg policy callers (suc n) ds ws same (omega arith) m.1)

-- a worker's run, told of what was lent and given back
pub finished-as : {K : Type 0} (good : List ℕ → Type 0) (stm : Stm K) (x y r s : CachePadded (Runner K)) → x ≡ r → y ≡ s → Finished good stm x y → Finished good stm r s
finished-as good stm x y r s lent left f = subst (λ b. Finished good stm r b) left (subst (λ a. Finished good stm a y) lent f)

module _ {K : Type 0} where
  pub workers-length : (rs : List (CachePadded (Runner K))) → length (workers_in rs) ≡ length rs
  workers-length rs = length-map rs worker_in

  pub worker-at : (rs : List (CachePadded (Runner K))) (n : ℕ) (d : CachePadded (Runner K)) → n < length (workers_in rs) → get_or (workers_in rs) n (worker_in d) ≡ worker_in (get_or rs n d)
  worker-at rs n d lt = get_or-map worker_in rs n d (worker_in d) (subst (λ k. n < k) (workers-length rs) lt)

  pub workers-set : (rs : List (CachePadded (Runner K))) (n : ℕ) (r : CachePadded (Runner K)) → workers_in (set rs n r) ≡ set (workers_in rs) n (worker_in r)
  workers-set [] n r = refl
  workers-set (x ∷ rs) zero r = refl
  workers-set (x ∷ rs) (suc n) r = ap (λ ws. worker_in x ∷ ws) (workers-set rs n r)
