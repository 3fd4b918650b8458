-- A worker that has done nothing.
use Rattle.std.proofs.Common.{ℕ, ◌≡◌, false, List, [], length, drop, refl, sym, ap, ◌∙◌, arith, subst}
use Rattle.std.specs.Prelude.{None}
use Rattle.work_profile.specs.declared.policy.Policy.{Policy}
use Rattle.stm_rule.specs.declared.stm.Stm.{Stm}
use Rattle.stm_model.specs.declared.alg.Alg.{Alg}
use Rattle.data_regions.specs.declared.region.Region.{Region}
use Rattle.work_script.specs.declared.report.Row.{Row}
use Rattle.work_script.specs.declared.workload.Item.{Item}
use Rattle.work_script.specs.Parts.{times}
use Rattle.work_script.specs.Reports.{scripts_of}
use Rattle.stm_rule.specs.Callers.{Handle, IsOf}
use Rattle.stm_answers.specs.CallerState.{CallerState, IsIdle, caller_of}
use Rattle.stm_tx.specs.Descs.{known}
use Rattle.work_trace.specs.declared.said.Phase.TheVariants.{Between}
use Rattle.work_trace.specs.Places.{CallerProgress}
use Rattle.work_worker.specs.declared.worker.Worker.{Worker}
use Rattle.work_driver.specs.Openings.{IsNew}
use Rattle.work_worker.specs.Workers.{IsAt, WhenInside, ToSwitch, ItemsFit, IsUnderWay, Works, Stands, IsFreshWorker, Sound}

module _ {K : Type 0} (good : List ℕ → Type 0) (stm : Stm K) where
  -- a caller that has made nothing has done nothing
  start-works : (rs : List Region) (n : ℕ) (all : List Item) (v : CallerState) → v.made ≡ [] → Works good stm.config.words rs all n v []
  start-works rs n all v none = record {
    writers = sym (ap times none);
    each = λ i d lt. absurd (omega arith);
    mine = λ i d lt. absurd (omega arith);
    numbered = refl;
    ordered = tt;
    places = λ i d lt. absurd (omega arith);
  }

  pub starts-sound : (d : Handle K) (items : List Item) (rs : List Region) (alg : Alg) (policy : Policy) (these : List Alg) (u : Worker K)
      → stm.config.fence ≡ false → IsOf d stm → IsNew these (known d) → ItemsFit good stm.config.words rs (caller_of d.who.role) items
      → IsFreshWorker d items rs alg policy u
      → Sound good stm u
  starts-sound d items rs alg policy these u plain own new fits s =
      let who : caller_of u.desc.who.role ≡ caller_of d.who.role = ap (λ (x : Handle K). caller_of x.who.role) s.is_desc in
      let knows : known u.desc ≡ known d = ap known s.is_desc in
      let phase : u.phase ≡ Between = ap (λ (p : CallerProgress). p.phase) s.at in
      let left : u.items_left.now ≡ items = ap (λ (p : CallerProgress). p.left) s.at in
      let none : u.rows.items ≡ [] = ap (λ (p : CallerProgress). p.rows) s.at in
      let failed : u.failed ≡ 0 = ap (λ (p : CallerProgress). p.failed) s.at in
      let unasked : u.chosen ≡ None = ap (λ (p : CallerProgress). p.chosen) s.at in
      let count = ap length none in
      let whole : u.items_left.now ≡ u.all.now = left ∙ sym s.all in
      let stands : Stands good stm.config.words u.regions.now u.all.now (caller_of u.desc.who.role) (known u.desc) u.rows.items Between =
      subst (λ x. Stands good stm.config.words x u.all.now (caller_of u.desc.who.role) (known u.desc) u.rows.items Between) (sym s.over)
      (subst (λ v. Stands good stm.config.words rs u.all.now (caller_of u.desc.who.role) v u.rows.items Between) (sym knows)
      (subst (λ rows. Stands good stm.config.words rs u.all.now (caller_of u.desc.who.role) (known d) rows Between) (sym none) (start-works rs (caller_of u.desc.who.role) u.all.now (known d) new.done.made))) in
      record {
        own = subst (λ (x : Handle K). IsOf x stm) (sym s.is_desc) own;
        at = subst (λ p. IsAt good stm.config (caller_of u.desc.who.role) p (known u.desc)) (sym phase) (subst IsIdle (sym knows) new.idle);
        stands = subst (Stands good stm.config.words u.regions.now u.all.now (caller_of u.desc.who.role) (known u.desc) u.rows.items) (sym phase) stands;
        done = ([], sym whole);
        todo = ap (scripts_of (caller_of u.desc.who.role)) whole ∙ ap (λ (rows : List Row). drop (length rows) (scripts_of (caller_of u.desc.who.role) u.all.now)) (sym none);
        within = omega arith;
        counted = λ off. omega (arith, failed);
        fits = subst (λ l. ItemsFit good stm.config.words u.regions.now (caller_of u.desc.who.role) l) (sym left)
            (subst (λ x. ItemsFit good stm.config.words x (caller_of u.desc.who.role) items) (sym s.over)
            (subst (λ n. ItemsFit good stm.config.words rs n items) (sym who) fits));
        roomy = s.roomy;
        turning = subst (λ p. ToSwitch p u.chosen u.items_left.now) (sym phase) tt;
        plain = plain;
        under_way = subst (λ p. WhenInside p (IsUnderWay good stm.config.words u)) (sym phase) tt;
      }
