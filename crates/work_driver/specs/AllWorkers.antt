-- The workers of all callers.
use Rattle.std.specs.Prelude.{ℕ, suc, ◌≡◌, ◌<◌, ◌≤◌, ◌+◌, ◌*◌, ◌^◌, ◌⊎◌, false, length, slice_index_or, List, [], ◌∷◌, ◌++◌, map, None, Result, Ok, Err}
use Rattle.stm_rule.specs.declared.stm.Stm.{Stm}
use Rattle.crossbeam_utils.specs.declared.cache_padded.CachePadded.{CachePadded}
use Rattle.crossbeam_utils.specs.Padded.{padded_value}
use Rattle.rule_base.specs.declared.seats.Role.TheVariants.{Caller}
use Rattle.stm_model.specs.declared.alg.Alg.{Alg}
use Rattle.work_profile.specs.declared.policy.Policy.{Policy}
use Rattle.data_regions.specs.declared.region.Region.{Region}
use Rattle.work_script.specs.declared.report.Row.{Row}
use Rattle.work_script.specs.declared.workload.Item.{Item}
use Rattle.stm_rule.specs.Callers.{Handle}
use Rattle.stm_tx.specs.Descs.{known}
use Rattle.stm_answers.specs.CallerState.{caller_of}
use Rattle.work_trace.specs.declared.said.Phase.TheVariants.{Between}
use Rattle.work_trace.specs.Adapting.{policy_for}
use Rattle.work_trace.specs.Turns.{BeforeTx, Lengthens}
use Rattle.work_worker.specs.declared.worker.Worker.{Worker}
use Rattle.work_worker.specs.Leavings.{MadeIdle}
use Rattle.work_trace.specs.Places.{most_failed}
use Rattle.work_worker.specs.RiseCovers.{CountsNext, CoversBut, raised}
use Rattle.work_worker.specs.Workers.{IsSame, Loaded, Sound, IsFreshWorker}
use Rattle.work_driver.specs.declared.schedule.Halt.{Halt}
use Rattle.work_driver.specs.declared.schedule.Halt.TheVariants.{ClockFull, Memory}
use Rattle.work_driver.specs.declared.workers.Common.{Common}
use Rattle.work_driver.specs.declared.workers.Runner.{Runner}

-- of two ends the one that counts: want of memory before a full clock, and of two full clocks the first
abbrev pub sooner : Result (Unit {0}) Halt → Result (Unit {0}) Halt → Result (Unit {0}) Halt
sooner (Ok x) how = how
sooner (Err Memory) how = Err Memory
sooner (Err (ClockFull clock)) (Ok x) = Err (ClockFull clock)
sooner (Err (ClockFull clock)) (Err (ClockFull other)) = Err (ClockFull clock)
sooner (Err (ClockFull clock)) (Err Memory) = Err Memory

module _ {K : Type 0} where
  abbrev pub worker_in : CachePadded (Runner K) → Worker K
  worker_in r = (padded_value r).worker

  abbrev pub workers_in : List (CachePadded (Runner K)) → List (Worker K)
  workers_in rs = map worker_in rs

  -- each descriptor is that of the caller of its place
  abbrev pub AreNumbered : List (Handle K) → Type 0
  AreNumbered ds = (n : ℕ) (d : Handle K) → n < length ds → caller_of (slice_index_or ds n d).who.role ≡ n

  -- a worker for each descriptor, which has done nothing; the first is that of caller n
  abbrev pub AreMade : (ℕ → List Item) → List Region → Alg → Policy → ℕ → List (Handle K) → List (Worker K) → Type 0
  AreMade items regions alg policy n [] [] = Unit {0}
  AreMade items regions alg policy n [] (w ∷ ws) = ⊥
  AreMade items regions alg policy n (d ∷ ds) [] = ⊥
  AreMade items regions alg policy n (d ∷ ds) (w ∷ ws) = IsFreshWorker d (items n) regions alg (policy_for policy n) w × AreMade items regions alg policy (suc n) ds ws

  -- what caller n's worker is made of, and what they all are
  abbrev pub IsMadeOf : Common → ℕ → Handle K → Worker K → Type 0
  IsMadeOf c n d w = IsFreshWorker d (slice_index_or c.parts.now n []) c.regions.now c.alg (policy_for c.policy n) w

  abbrev pub AreMadeOf : Common → List (Handle K) → List (Worker K) → Type 0
  AreMadeOf c ds ws = AreMade (λ n. slice_index_or c.parts.now n []) c.regions.now c.alg c.policy 0 ds ws

  -- the workers are those of the callers from n on
  abbrev pub AreCallers : ℕ → List (Worker K) → Type 0
  AreCallers n [] = Unit {0}
  AreCallers n (w ∷ ws) = (w.desc.who.role ≡ Caller n) × AreCallers (suc n) ws

  abbrev pub descs_of : List (Worker K) → List (Handle K)
  descs_of [] = []
  descs_of (w ∷ ws) = w.desc ∷ descs_of ws

  -- the rows of all workers, one worker after the other
  abbrev pub rows_of : List (Worker K) → List Row
  rows_of [] = []
  rows_of (w ∷ ws) = w.rows.items ++ rows_of ws

  -- how the turns of all ended
  abbrev pub how_all : List (CachePadded (Runner K)) → Result (Unit {0}) Halt
  how_all [] = Ok tt
  how_all (r ∷ rs) = sooner (padded_value r).how (how_all rs)

  -- a transaction is still to be done, and a call of its caller found this clock, which is at its limit
  abbrev pub MetLimit : Worker K → ℕ → Type 0
  MetLimit w clock = (2 ^ 62 ≤ clock) × Loaded (known w.desc) clock × BeforeTx w.items_left.now

  -- longer logs are still to be made, for which memory was refused
  abbrev pub MetRefusal : Worker K → Type 0
  MetRefusal w = (reads writes : ℕ) × Lengthens reads writes w.items_left.now

  -- nothing is left, or the clock was found at its limit, or memory was refused
  abbrev pub IsThrough : Worker K → Result (Unit {0}) Halt → Type 0
  IsThrough w (Ok x) = (w.items_left.now ≡ []) × (w.chosen ≡ None)
  IsThrough w (Err (ClockFull clock)) = MetLimit w clock
  IsThrough w (Err Memory) = MetRefusal w

  -- so many attempts of one transaction that fail are covered: 16 are counted, and none where there is one caller
  abbrev pub Enough : Stm K → ℕ → Worker K → Type 0
  Enough stm most w = (most_failed ≤ most) ⊎ ((stm.config.callers ≡ 1) × (w.failed ≡ 0) × (1 ≤ most))

  -- its items cover what its steps raised the clock by, but for what was uncovered before
  pub record IsCovered (stm : Stm K) (u w : Worker K) : Type 0 where
    pub all : (uncovered each most : ℕ) → Enough stm most u → most + 3 ≤ each → CountsNext u → CoversBut uncovered each most u → raised (known w.desc) ≤ each * length w.all.now + uncovered

  -- each covered
  abbrev pub AreCoveredFor : Stm K → List (Worker K) → List (Worker K) → Type 0
  AreCoveredFor stm [] [] = Unit {0}
  AreCoveredFor stm (u ∷ us) (w ∷ ws) = IsCovered stm u w × AreCoveredFor stm us ws
  AreCoveredFor stm (u ∷ us) [] = ⊥
  AreCoveredFor stm [] (w ∷ ws) = ⊥

  module _ (good : List ℕ → Type 0) (stm : Stm K) where
    pub record IsReady (r : CachePadded (Runner K)) : Type 0 where
      pub sound : Sound good stm (worker_in r)

    -- a worker before its run and after it
    pub record Finished (r s : CachePadded (Runner K)) : Type 0 where
      pub sound : Sound good stm (worker_in s)
      pub same : IsSame false (worker_in r) (worker_in s)
      pub between : (worker_in s).phase ≡ Between
      pub through : IsThrough (worker_in s) (padded_value s).how
      pub covered : IsCovered stm (worker_in r) (worker_in s)

  module _ (good : List ℕ → Type 0) (stm : Stm K) where
    -- each ended without a row
    abbrev pub AreMadeIdle : List (Worker K) → List (Worker K) → Type 0
    AreMadeIdle [] [] = Unit {0}
    AreMadeIdle (v ∷ vs) (w ∷ ws) = MadeIdle good stm v w × AreMadeIdle vs ws
    AreMadeIdle (v ∷ vs) [] = ⊥
    AreMadeIdle [] (w ∷ ws) = ⊥
