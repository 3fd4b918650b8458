-- Workers of a workload, each its caller's, wherever they stand.
use Rattle.std.proofs.Common.{ℕ, zero, suc, ◌≡◌, ◌<◌, ◌≤◌, List, [], ◌∷◌, length, get_or, drop, refl, ap, ◌∙◌, arith, subst, length-append}
use Rattle.std.specs.Prelude.{Bool, Some}
use Rattle.std.specs.Prelude.{Contains}
use Rattle.std.proofs.lemmas.List.Elements.{All-head, All-tail}
use Rattle.work_profile.specs.declared.policy.Policy.{Policy}
use Rattle.stm_rule.specs.declared.stm.Stm.{Stm}
use Rattle.rule_base.specs.declared.layout.At.TheVariants.{Clock}
use Rattle.stm_model.specs.declared.config.Config.{Config}
use Rattle.rule_base.specs.declared.views.Act.{Act}
use Rattle.rule_base.specs.declared.views.TracedStep.{TracedStep}
use Rattle.rule_base.specs.StepsRule.{ClocksWithin}
use Rattle.stm_model.specs.Histories.{Entry}
use Rattle.work_script.specs.declared.report.Kind.{Kind}
use Rattle.work_script.specs.declared.report.Kind.TheVariants.{W, R, C}
use Rattle.work_script.specs.declared.report.Row.{Row}
use Rattle.work_script.specs.declared.workload.Workload.{Workload}
use Rattle.work_script.specs.Parts.{times}
use Rattle.work_script.specs.Reports.{regions_of, scripts_of, writers, writer_to}
use Rattle.stm_answers.specs.CallerState.{caller_of}
use Rattle.stm_tx.specs.Descs.{known}
use Rattle.work_trace.specs.declared.said.Phase.TheVariants.{Between}
use Rattle.work_trace.specs.Places.{items_of}
use Rattle.work_worker.specs.declared.worker.Worker.{Worker}
use Rattle.work_worker.specs.Workers.{Works, Stands, Sound}
use Rattle.work_driver.specs.AllWorkers.{rows_of}
use Rattle.work_script.specs.Workloads.{config_of}
use Rattle.work_driver.specs.Schedules.{AreSound}
use Rattle.work_driver.proofs.PartingLaws.{scripts-own, total, total-few}
use Rattle.work_driver.proofs.PreparedLaws.{IsOwn, AreOwn}

-- a clock that was found is at most the last
pub clock-within : (t : ℕ) (step_trace : List TracedStep) (act : Act) (x : ℕ) → ClocksWithin t step_trace → Contains step_trace (record { place = Clock; act = act; found = Some x }) → x ≤ t
clock-within t step_trace act x w h = at step_trace h.0 w h.1 h.2
  where
    at : (is : List TracedStep) (k : ℕ) → ClocksWithin t is → k < length is → get_or is k (record { place = Clock; act = act; found = Some x }) ≡ record { place = Clock; act = act; found = Some x } → x ≤ t
    at [] k w lt e = absurd (omega arith)
    at (i ∷ is) zero w lt e = w.0 (ap (λ (y : TracedStep). y.place) e) x (ap (λ (y : TracedStep). y.found) e)
    at (i ∷ is) (suc k) w lt e = at is k w.1 (omega arith) e

writers-few : (rows : List Row) → length (writers rows) ≤ length rows
writers-few [] = omega arith
writers-few (r ∷ rows) = by r.kind (writers-few rows)
  where
    by : (k : Kind) → length (writers rows) ≤ length rows → length (writer_to k r.place (writers rows)) ≤ suc (length rows)
    by W le = omega arith
    by R le = omega arith
    by C le = omega arith

times-length : (es : List Entry) → length (times es) ≡ length es
times-length [] = refl
times-length (e ∷ es) = ap suc (times-length es)

-- a caller has at most as many entries as rows
pub made-few : (rows : List Row) (made : List Entry) → writers rows ≡ times made → length made ≤ length rows
made-few rows made h = let a = writers-few rows in let b = times-length made in let e = ap length h in omega arith

-- each is what its place asks
abbrev pub Each : {A : Type 0} → (ℕ → A → Type 0) → ℕ → List A → Type 0
Each P n [] = Unit {0}
Each P n (x ∷ xs) = P n x × Each P (suc n) xs

module _ {K : Type 0} (good : List ℕ → Type 0) (cut : Bool) (policy : Policy) (w : Workload) (stm : Stm K) (sized : stm.config ≡ config_of w.header) where
  pub record Stood (n : ℕ) (r : Worker K) : Type 0 where
    pub sound : Sound good stm r
    pub own : IsOwn cut policy w n r

  pub stood-each : (n : ℕ) (ws : List (Worker K)) → AreSound good stm ws → AreOwn cut policy w n ws → Each Stood n ws
  stood-each n [] s o = tt
  stood-each n (r ∷ ws) s o =
      (record { sound = All-head (Sound good stm) r ws s; own = o.0 }, stood-each (suc n) ws (All-tail (Sound good stm) r ws s) o.1)

  pub stood-caller : (n : ℕ) (r : Worker K) → Stood n r → caller_of r.desc.who.role ≡ n
  stood-caller n r s = ap caller_of s.own.role

  pub stood-works : (n : ℕ) (r : Worker K) → Stood n r → r.phase ≡ Between → Works good w.header.words (regions_of w.header) (items_of n w.items) n (known r.desc) r.rows.items
  stood-works n r s between =
      let words : stm.config.words ≡ w.header.words = ap (λ (c : Config). c.words) sized in
      subst (λ k. Stands good k (regions_of w.header) (items_of n w.items) n (known r.desc) r.rows.items Between) words
      (subst (λ rs. Stands good stm.config.words rs (items_of n w.items) n (known r.desc) r.rows.items Between) s.own.over
      (subst (λ x. Stands good stm.config.words r.regions.now x n (known r.desc) r.rows.items Between) s.own.all
      (subst (λ k. Stands good stm.config.words r.regions.now r.all.now k (known r.desc) r.rows.items Between) (stood-caller n r s)
      (subst (Stands good stm.config.words r.regions.now r.all.now (caller_of r.desc.who.role) (known r.desc) r.rows.items) between s.sound.stands))))

  -- what is left of its scripts
  pub stood-todo : (n : ℕ) (r : Worker K) → Stood n r → scripts_of n r.items_left.now ≡ drop (length r.rows.items) (scripts_of n w.items)
  stood-todo n r s =
      subst (λ k. scripts_of k r.items_left.now ≡ drop (length r.rows.items) (scripts_of k r.all.now)) (stood-caller n r s) s.sound.todo
      ∙ ap (drop (length r.rows.items)) (ap (scripts_of n) s.own.all ∙ scripts-own n w.items)

  pub stood-within : (n : ℕ) (r : Worker K) → Stood n r → length r.rows.items ≤ length (scripts_of n w.items)
  stood-within n r s =
      subst (λ x. length r.rows.items ≤ length x) (ap (scripts_of n) s.own.all ∙ scripts-own n w.items)
      (subst (λ k. length r.rows.items ≤ length (scripts_of k r.all.now)) (stood-caller n r s) s.sound.within)

  pub rows-total : (n : ℕ) (rs : List (Worker K)) → Each Stood n rs → length (rows_of rs) ≤ total n (length rs) w.items
  rows-total n [] h = omega arith
  rows-total n (r ∷ rs) h =
      let one = stood-within n r h.0 in
      let rest = rows-total (suc n) rs h.1 in
      let both = length-append r.rows.items (rows_of rs) in
      omega arith

  -- there is a row for each transaction at most
  pub rows-few : (n : ℕ) (rs : List (Worker K)) → Each Stood n rs → length (rows_of rs) ≤ length w.items
  rows-few n rs h = let a = rows-total n rs h in let b = total-few n (length rs) w.items in omega arith
