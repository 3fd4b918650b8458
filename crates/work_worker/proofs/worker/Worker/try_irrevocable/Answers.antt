use Rattle.std.proofs.Common.{ℕ, ◌≡◌, Bool, true, false, refl, sym, ◌∙◌, subst, inl, inr}
use Rattle.std.specs.Prelude.{MatchBool}
use Rattle.work_profile.specs.declared.outcome.Outcome.TheVariants as outcomes
use Rattle.work_profile.specs.Profiles.{with_outcome}
use Rattle.work_script.specs.declared.op.Op.TheVariants.{Irrev}
use Rattle.work_trace.specs.declared.said.Said.TheVariants.{TryIrrevocable}
use Rattle.work_trace.specs.Places.{failed_next, is_forced, must_next}
use Rattle.work_trace.specs.Turns.{MaySay, Next}
use Rattle.stm_answers.specs.Answers as answers
use Rattle.stm_answers.specs.CallerState.{CallerState, IsRunning, caller_of, is_irrevocable}
use Rattle.stm_answers.specs.CallerState as knows
use Rattle.stm_model.specs.Algorithms.{irrevocable_under}
use Rattle.stm_model.specs.declared.config.Config.{Config}
use Rattle.stm_answers.specs.declared.answers.Cancel.{Cancel}
use Rattle.stm_answers.specs.declared.answers.Cancel.TheVariants.{Cancelled, Irrevocable}
use Rattle.stm_answers.specs.declared.answers.Irrev.TheVariants as irrevs
use Rattle.stm_rule.specs.Callers.{IsSameCaller}
use Rattle.stm_rule.specs.declared.stm.Stm.{Stm}
use Rattle.stm_tx.specs.Descs.{known}
use Rattle.work_worker.specs.declared.worker.Worker.{Worker}
use Rattle.work_worker.specs.Workers.{DoneIrrev, Sound, Turned, cleared, place_of}
use Rattle.work_worker.proofs.StandLaws.{callers-same, room-now, same-twice}
use Rattle.work_worker.proofs.TurnLaws.{turned-forced, turned-asked, turned-busy, turned-over, turned-quit, few-next, attempt-now, runs-now, runs-forced, runs-free}
use Rattle.stm_answers.specs.CallerStateLaws.{grows-trans}
use Rattle.work_worker.proofs.worker.Worker.try_irrevocable.Goals as goal

-- it may be asked for: because it must, or by the operation
may : {K : Type 0} → (u : Worker K) (forced : Bool) (r : Rattle.stm_answers.specs.declared.answers.Irrev.Irrev)
    → u.phase ≡ Rattle.work_trace.specs.declared.said.Phase.TheVariants.Inside → forced ≡ is_forced (place_of u)
    → (forced ≡ false → Next Irrev u.operations_left.now) → MaySay (place_of u) (TryIrrevocable r)
may u true r inside is next = inl (inside, sym is)
may u false r inside is next = inr (inside, sym is, next refl)

granted : {K : Type 0} → (good : _) (stm : Stm K) (u : Worker K) → Sound good stm u → (d : _) → IsSameCaller u.desc d
    → (forced : Bool) (w : Worker K) → u.phase ≡ Rattle.work_trace.specs.declared.said.Phase.TheVariants.Inside
    → forced ≡ is_forced (place_of u) → (forced ≡ false → Next Irrev u.operations_left.now)
    → answers.TriesIrrevocable good stm.config (caller_of u.desc.who.role) (known u.desc) (known d) → MatchBool forced (w ≡ record (record u { desc = d }) { granted = true }) (DoneIrrev (record u { desc = d }) w)
    → Turned good stm MaySay u (TryIrrevocable irrevs.Granted) w
granted good stm u s d same true w inside is next h e = subst (Turned good stm MaySay u (TryIrrevocable irrevs.Granted)) (sym e) (turned-forced good stm u s d same inside (sym is) h)
granted good stm u s d same false w inside is next h e =
    subst (Turned good stm MaySay u (TryIrrevocable irrevs.Granted)) (sym e.is) (turned-asked good stm u s d same w.operations_left w.out (inside, sym is, next refl) e.left e.told h)

pub returns-in-Granted : goal.returns-in-Granted
returns-in-Granted g c =
    let good = g.K.MemRule.good c.args.stm.now.rule in
    let stm = c.args.stm.now in
    let u = c.args.self.now in
    let s = c.requires.sound in
    record {
      turned = granted good stm u s c.try_irrevocable.new.desc c.try_irrevocable.ensures.same c.args.forced c.take_grant.new.self
          c.requires.inside c.requires.forced c.requires.asked c.in-Granted.ensures.irrevs c.take_grant.ensures;
    }

pub returns-in-Busy : goal.returns-in-Busy
returns-in-Busy g c =
    let good = g.K.MemRule.good c.args.stm.now.rule in
    let stm = c.args.stm.now in
    let u = c.args.self.now in
    let s = c.requires.sound in
    record {
      turned = turned-busy good stm u s c.try_irrevocable.new.desc c.try_irrevocable.ensures.same c.in-Busy.caller c.in-Busy.status
          c.requires.inside
          (may u c.args.forced (irrevs.Busy c.in-Busy.caller c.in-Busy.status) c.requires.inside c.requires.forced c.requires.asked)
          c.in-Busy.ensures.irrevs;
    }

pub returns-in-Conflict : goal.returns-in-Conflict
returns-in-Conflict g c =
    let good = g.K.MemRule.good c.args.stm.now.rule in
    let stm = c.args.stm.now in
    let u = c.args.self.now in
    let s = c.requires.sound in
    let said = irrevs.Conflict c.in-Conflict.cause in
    record {
      turned = subst (Turned good stm MaySay u (TryIrrevocable said)) (sym c.make_way-in-Conflict.ensures)
          (turned-quit good stm u s c.try_irrevocable.new.desc c.try_irrevocable.ensures.same (TryIrrevocable said)
          (with_outcome u.profile outcomes.Conflict) (must_next u.must u.failed) u.passed (failed_next u.must u.failed) (cleared u.out)
          c.requires.inside (may u c.args.forced said c.requires.inside c.requires.forced c.requires.asked)
          c.in-Conflict.ensures.irrevs (runs-now good stm u s c.requires.inside) refl c.in-Conflict.ensures.irrevs.0 refl (few-next good stm u s c.try_irrevocable.new.desc c.try_irrevocable.ensures.same));
    }

pub returns-in-ClockFull : goal.returns-in-ClockFull
returns-in-ClockFull g c =
    let good = g.K.MemRule.good c.args.stm.now.rule in
    let stm = c.args.stm.now in
    let u = c.args.self.now in
    let s = c.requires.sound in
    let said = irrevs.ClockFull c.in-ClockFull.clock in
    record {
      turned = subst (Turned good stm MaySay u (TryIrrevocable said)) (sym c.give_up.ensures)
          (turned-quit good stm u s c.try_irrevocable.new.desc c.try_irrevocable.ensures.same (TryIrrevocable said) u.profile u.must
          u.passed u.failed (cleared u.out) c.requires.inside
          (may u c.args.forced said c.requires.inside c.requires.forced c.requires.asked)
          c.in-ClockFull.ensures.irrevs (runs-now good stm u s c.requires.inside) refl c.in-ClockFull.ensures.irrevs.0 refl s.counted);
    }

-- an attempt that could be cancelled before the gate was asked for is cancelled
gone : (good : _) (f : Config) (n : ℕ) (r : Cancel) (v w : CallerState) → is_irrevocable v ≡ false → answers.Cancels good f n r v w → (time : ℕ) × answers.Cancels good f n (Cancelled time) v w
gone good f n (Cancelled time) v w off h = (time, h)
gone good f n Irrevocable v w off h = absurd (let e : true ≡ false = sym h.1 ∙ off in cc)

pub returns-in-Taken : goal.returns-in-Taken
returns-in-Taken g c =
    let good = g.K.MemRule.good c.args.stm.now.rule in
    let stm = c.args.stm.now in
    let u = c.args.self.now in
    let s = c.requires.sound in
    let said = irrevs.Taken c.in-Taken.gate in
    let h = c.in-Taken.ensures.irrevs in
    let w = h.0 in
    let n = caller_of u.desc.who.role in
    let x = known c.try_irrevocable.new.desc in
    let off : is_irrevocable x ≡ false = (λ i. irrevocable_under (w.continues.alg i) (w.granted i) (knows.wrote (record (known u.desc) { log = w.log i }))) ∙ w.revocable in
    let here : caller_of c.try_irrevocable.new.desc.who.role ≡ n = callers-same u.desc c.try_irrevocable.new.desc c.try_irrevocable.ensures.same in
    let q = gone good stm.config n c.cancel.result x (known c.cancel.new.desc) off (subst (λ k. answers.Cancels good stm.config k c.cancel.result x (known c.cancel.new.desc)) here c.cancel.ensures.cancels) in
    let e = q.1.0 in
    let same = same-twice u.desc c.try_irrevocable.new.desc c.cancel.new.desc c.try_irrevocable.ensures.same c.cancel.ensures.same in
    record {
      turned = subst (Turned good stm MaySay u (TryIrrevocable said)) (sym c.make_way.ensures)
          (turned-over good stm u s c.cancel.new.desc same MaySay (TryIrrevocable said) (with_outcome u.profile outcomes.Cancelled)
          (must_next u.must u.failed) u.passed (failed_next u.must u.failed) (cleared u.out) (λ m. m) c.requires.inside
          (may u c.args.forced said c.requires.inside c.requires.forced c.requires.asked)
          (runs-now good stm u s c.requires.inside) (x, h, q) refl (grows-trans (known u.desc) x (known c.cancel.new.desc) w.continues.grows e.ends.grows) e.ends.idle (e.made ∙ w.continues.made) refl
          (few-next good stm u s c.cancel.new.desc same));
    }

running-now : {K : Type 0} → (good : _) (stm : Stm K) (u : Worker K) → Sound good stm u → (forced : Bool)
    → u.phase ≡ Rattle.work_trace.specs.declared.said.Phase.TheVariants.Inside → forced ≡ is_forced (place_of u)
    → (forced ≡ false → Next Irrev u.operations_left.now) → IsRunning (known u.desc)
running-now good stm u s true inside is next = runs-forced good stm u s inside (sym is)
running-now good stm u s false inside is next = runs-free good stm u s inside Irrev (next refl)

pub try_irrevocable-requires-clause-running : goal.try_irrevocable-requires-clause-running
try_irrevocable-requires-clause-running g c =
    let good = g.K.MemRule.good c.args.stm.now.rule in
    let stm = c.args.stm.now in
    let u = c.args.self.now in
    let s = c.requires.sound in
    running-now good stm u s c.args.forced c.requires.inside c.requires.forced c.requires.asked

pub take_grant-requires : goal.take_grant-requires
take_grant-requires g c =
    let good = g.K.MemRule.good c.args.stm.now.rule in
    let stm = c.args.stm.now in
    let u = c.args.self.now in
    let s = c.requires.sound in
    λ e. room-now Irrev u.operations_left.now u.out (c.requires.asked e) (attempt-now good stm u s c.requires.inside).going.room
