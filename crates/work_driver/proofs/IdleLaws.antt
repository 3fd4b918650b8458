-- What is open ends without a row, one worker after the other.
use Rattle.std.proofs.Common.{ℕ, zero, suc, ◌≡◌, ◌<◌, ◌≤◌, ◌+◌, ◌++◌, true, false, List, [], ◌∷◌, length, get_or, set, take, drop, refl, sym, ap, ◌∙◌, arith, subst, add-one}
use Rattle.std.specs.Prelude.{sum_by, All}
use Rattle.std.proofs.lemmas.List.Elements.{All-head, All-tail}
use Rattle.std.proofs.lemmas.List.Sums.{sum_by-cons}
use Rattle.stm_rule.specs.declared.stm.Stm.{Stm}
use Rattle.crossbeam_utils.specs.declared.cache_padded.CachePadded.{CachePadded}
use Rattle.stm_rule.specs.Callers.{Handle, AllIdle}
use Rattle.stm_answers.specs.CallerState.{owed}
use Rattle.stm_tx.specs.Descs.{known}
use Rattle.work_trace.specs.declared.said.Phase.TheVariants.{Between}
use Rattle.work_worker.specs.declared.worker.Worker.{Worker}
use Rattle.work_worker.specs.Leavings.{MadeIdle}
use Rattle.work_worker.specs.Workers.{Sound}
use Rattle.work_driver.specs.declared.workers.Runner.{Runner}
use Rattle.work_driver.specs.AllWorkers.{AreCallers, AreMadeIdle, worker_in, workers_in, descs_of, rows_of}
use Rattle.work_driver.specs.Schedules.{AreSound, debts}
use Rattle.work_driver.proofs.PartingLaws.{written}
use Rattle.work_driver.proofs.WorkersLaws.{workers-length, worker-at, workers-set}

module _ {K : Type 0} (good : List ℕ → Type 0) (stm : Stm K) where
  -- the first n have ended, and the others are as they were
  abbrev pub AreIdleTo : ℕ → List (Worker K) → List (Worker K) → Type 0
  AreIdleTo zero vs ws = vs ≡ ws
  AreIdleTo (suc n) [] [] = Unit {0}
  AreIdleTo (suc n) (v ∷ vs) (w ∷ ws) = MadeIdle good stm v w × AreIdleTo n vs ws
  AreIdleTo (suc n) (v ∷ vs) [] = ⊥
  AreIdleTo (suc n) [] (w ∷ ws) = ⊥

  -- the next is as it was
  pub next-was : (n : ℕ) (vs ws : List (Worker K)) (d : Worker K) → AreIdleTo n vs ws → get_or ws n d ≡ get_or vs n d
  next-was zero vs ws d h = ap (λ us. get_or us 0 d) (sym h)
  next-was (suc n) [] [] d h = refl
  next-was (suc n) (v ∷ vs) (w ∷ ws) d h = next-was n vs ws d h.1
  next-was (suc n) (v ∷ vs) [] d h = absurd h
  next-was (suc n) [] (w ∷ ws) d h = absurd h

  idle-first : (vs ws : List (Worker K)) (d w : Worker K) → vs ≡ ws → 0 < length ws → MadeIdle good stm (get_or ws 0 d) w → AreIdleTo 1 vs (set ws 0 w)
  idle-first vs [] d w e lt h = absurd (omega (arith, lt))
  idle-first [] (x ∷ ws) d w e lt h = absurd cc
  idle-first (v ∷ vs) (x ∷ ws) d w e lt h =
      let same : v ≡ x = cc in
      let others : vs ≡ ws = cc in
      (subst (λ u. MadeIdle good stm u w) (sym same) h, others)

  idle-more : (n : ℕ) (vs ws : List (Worker K)) (d w : Worker K) → AreIdleTo n vs ws → n < length ws → MadeIdle good stm (get_or ws n d) w → AreIdleTo (suc n) vs (set ws n w)
  idle-more zero vs ws d w e lt h = idle-first vs ws d w e lt h
  idle-more (suc n) [] [] d w e lt h = absurd (omega (arith, lt))
  idle-more (suc n) (v ∷ vs) (x ∷ ws) d w e lt h = (e.0, idle-more n vs ws d w e.1 (omega (arith, lt)) h)
  idle-more (suc n) (v ∷ vs) [] d w e lt h = absurd e
  idle-more (suc n) [] (x ∷ ws) d w e lt h = absurd e

  pub idle-next : (n : ℕ) (vs ws : List (Worker K)) (d w : Worker K) → AreIdleTo n vs ws → n < length ws → MadeIdle good stm (get_or ws n d) w → AreIdleTo (n + 1) vs (set ws n w)
  idle-next n vs ws d w e lt h = subst (λ (j : ℕ). AreIdleTo j vs (set ws n w)) (sym (add-one n)) (idle-more n vs ws d w e lt h)

  pub idle-all : (n : ℕ) (vs ws : List (Worker K)) → length vs ≤ n → AreIdleTo n vs ws → AreMadeIdle good stm vs ws
  idle-all zero [] [] most h = tt
  idle-all zero [] (w ∷ ws) most h = absurd cc
  idle-all zero (v ∷ vs) ws most h = absurd (omega (arith, most))
  idle-all (suc n) [] [] most h = tt
  idle-all (suc n) (v ∷ vs) (w ∷ ws) most h = (h.0, idle-all n vs ws (omega (arith, most)) h.1)
  idle-all (suc n) (v ∷ vs) [] most h = absurd h
  idle-all (suc n) [] (w ∷ ws) most h = absurd h

pub descs-count : {K : Type 0} (ws : List (Worker K)) → length (descs_of ws) ≡ length ws
descs-count [] = refl
descs-count (w ∷ ws) = ap suc (descs-count ws)

module _ {K : Type 0} (good : List ℕ → Type 0) (stm : Stm K) where
  pub idle-length : (vs ws : List (Worker K)) → AreMadeIdle good stm vs ws → length ws ≡ length vs
  idle-length [] [] h = refl
  idle-length [] (w ∷ ws) h = absurd h
  idle-length (v ∷ vs) [] h = absurd h
  idle-length (v ∷ vs) (w ∷ ws) h = ap suc (idle-length vs ws h.1)

  idle-rows : (vs ws : List (Worker K)) → AreMadeIdle good stm vs ws → rows_of ws ≡ rows_of vs
  idle-rows [] [] h = refl
  idle-rows [] (w ∷ ws) h = absurd h
  idle-rows (v ∷ vs) [] h = absurd h
  idle-rows (v ∷ vs) (w ∷ ws) h = ap (λ l. l ++ rows_of ws) h.0.rows ∙ ap (λ l. v.rows.items ++ l) (idle-rows vs ws h.1)

  idle-descs : (n : ℕ) (vs ws : List (Worker K)) → AreCallers n vs → AreMadeIdle good stm vs ws → AllIdle stm n (descs_of ws)
  idle-descs n [] [] c h = tt
  idle-descs n [] (w ∷ ws) c h = absurd h
  idle-descs n (v ∷ vs) [] c h = absurd h
  idle-descs n (v ∷ vs) (w ∷ ws) c h = (h.0.own, ap (λ x. x.role) h.0.same.who ∙ c.0, (h.0.idle.0, λ on. absurd (let f : true ≡ false = sym on ∙ h.0.plain in cc)), idle-descs (suc n) vs ws c.1 h.1)

  -- no more than was owed
  pub idle-rises : (vs ws : List (Worker K)) → AreMadeIdle good stm vs ws → sum_by (λ (d : Handle K). d.view.steps.rises) (descs_of ws) ≤ debts vs
  idle-rises [] [] h = omega arith
  idle-rises [] (w ∷ ws) h = absurd h
  idle-rises (v ∷ vs) [] h = absurd h
  idle-rises (v ∷ vs) (w ∷ ws) h =
      let a = sum_by-cons (λ (d : Handle K). d.view.steps.rises) w.desc (descs_of ws) in
      let b = sum_by-cons (λ (x : Worker K). owed (known x.desc)) v vs in
      let one = h.0.owes in
      let rest = idle-rises vs ws h.1 in
      omega (arith, a, b, one, rest)

  -- who had nothing open stays as it was
  pub idle-still : (vs ws : List (Worker K)) → All (λ (w : Worker K). w.phase ≡ Between) vs → AreMadeIdle good stm vs ws → ws ≡ vs
  idle-still [] [] h i = refl
  idle-still [] (w ∷ ws) h i = absurd i
  idle-still (v ∷ vs) [] h i = absurd i
  idle-still (v ∷ vs) (w ∷ ws) h i =
      let P : Worker K → Type 0 = λ (w : Worker K). w.phase ≡ Between in
      ap (λ x. x ∷ ws) (i.0.still (All-head P v vs h)) ∙ ap (λ xs. v ∷ xs) (idle-still vs ws (All-tail P v vs h) i.1)

  -- the same of runners
  pub next-sound : (n : ℕ) (before now : List (CachePadded (Runner K))) (d : CachePadded (Runner K)) → n < length before → n < length now
      → AreIdleTo good stm n (workers_in before) (workers_in now) → AreSound good stm (workers_in before)
      → Sound good stm (worker_in (get_or now n d))
  next-sound n before now d first lt h s =
      let low = subst (λ k. n < k) (sym (workers-length before)) first in
      let less = subst (λ k. n < k) (sym (workers-length now)) lt in
      subst (Sound good stm) (sym (next-was good stm n (workers_in before) (workers_in now) (worker_in d) h) ∙ worker-at now n d less) (s n (worker_in d) low)

  pub next-idle : (n : ℕ) (before now : List (CachePadded (Runner K))) (d r : CachePadded (Runner K)) → n < length now
      → AreIdleTo good stm n (workers_in before) (workers_in now) → MadeIdle good stm (worker_in (get_or now n d)) (worker_in r)
      → AreIdleTo good stm (n + 1) (workers_in before) (workers_in (set now n r))
  next-idle n before now d r lt h m =
      let less = subst (λ k. n < k) (sym (workers-length now)) lt in
      subst (AreIdleTo good stm (n + 1) (workers_in before)) (sym (workers-set now n r))
      (idle-next good stm n (workers_in before) (workers_in now) (worker_in d) (worker_in r) h less (subst (λ (x : Worker K). MadeIdle good stm x (worker_in r)) (sym (worker-at now n d less)) m))

  -- workers that were lent as a slice, and what came back
  pub record CameBack (vs after : List (Worker K)) (left : List (CachePadded (Runner K))) : Type 0 where
    pub is : workers_in left ≡ after
    pub idle : AreMadeIdle good stm vs after
    pub rows : rows_of after ≡ rows_of vs
    pub count : length after ≡ length vs
    pub descs : AllIdle stm 0 (descs_of after)

  pub came-back : (rs lent after : List (CachePadded (Runner K))) (n : ℕ) → lent ≡ rs → length lent ≡ n → AreCallers 0 (workers_in rs) → AreMadeIdle good stm (workers_in lent) (workers_in after)
      → CameBack (workers_in rs) (workers_in after) (take n (after ++ drop (length after) rs))
  came-back rs lent after n same long callers h =
      let idle = subst (λ l. AreMadeIdle good stm (workers_in l) (workers_in after)) same h in
      let count = idle-length (workers_in rs) (workers_in after) idle in
      let also = ap length same in
      let a = workers-length rs in
      let b = workers-length after in
      record {
        is = ap workers_in (written n after rs (omega (arith, count, also, long, a, b)) (omega (arith, also, long)));
        idle = idle;
        rows = idle-rows (workers_in rs) (workers_in after) idle;
        count = count;
        descs = idle-descs 0 (workers_in rs) (workers_in after) callers idle;
      }
