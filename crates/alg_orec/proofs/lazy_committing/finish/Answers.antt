use Rattle.std.proofs.Common.{◌≡◌, ◌++◌, refl, sym, ap, ◌∙◌, subst, append_assoc, true, false}
use Rattle.rule_base.specs.declared.views.View.{View}
use Rattle.alg_orec.specs.Locking.{OwesNothing}
use Rattle.alg_orec.proofs.lazy_committing.finish.Goals as goal

pub write_back_all-requires-clause-view : goal.write_back_all-requires-clause-view
write_back_all-requires-clause-view g c = let k = c.requires.view in record { has = k.has; back = k.back; inside = k.inside }

pub release_all-requires-clause-view : goal.release_all-requires-clause-view
release_all-requires-clause-view g c =
    let k = c.requires.view in
    let p = c.write_back_all.ensures.pays in
    subst (OwesNothing c.args.stm.now.config c.args.time c.args.local.now) (sym p.is) (record {
      has = record { runs = record { phase = k.has.runs.phase; algorithm = k.has.runs.algorithm; plain = k.has.runs.plain }; inside = k.has.inside };
      committed = k.committed;
      time = k.time;
      repaid = refl;
      undone = k.undone;
      locks = k.locks;
      places = k.places;
    })

pub leave-requires-clause-view : goal.leave-requires-clause-view
leave-requires-clause-view g c =
    let k = c.requires.view in
    let p = c.write_back_all.ensures.pays in
    let q = c.release_all.ensures.releases in
    record {
      phase = ap (λ (y : View). y.gate.phase) q.is ∙ (ap (λ (y : View). y.gate.phase) p.is ∙ k.has.runs.phase);
      unlocked = ap (λ (y : View). y.lock.taken) q.is ∙ (ap (λ (y : View). y.lock.taken) p.is ∙ k.unlocked);
      unfixed = ap (λ (y : View). y.lock.irrevocable) q.is ∙ (ap (λ (y : View). y.lock.irrevocable) p.is ∙ k.unfixed);
      disowned = ap (λ (y : View). y.owned.held) q.is;
      unwritten = ap (λ (y : View). y.tml.writer) q.is ∙ (ap (λ (y : View). y.tml.writer) p.is ∙ k.unwritten);
      uncommitted = ap (λ (y : View). y.ring_commit.committed) q.is ∙ (ap (λ (y : View). y.ring_commit.committed) p.is ∙ k.uncommitted);
      ungranted = λ e. ap (λ (y : View). y.gate.granted) q.is ∙ (ap (λ (y : View). y.gate.granted) p.is ∙ k.has.runs.plain);
      plain = λ e. ap (λ (y : View). y.attempt.entered) q.is ∙ (ap (λ (y : View). y.attempt.entered) p.is ∙ k.unentered);
      unstored = λ e. ap (λ (y : View). y.attempt.stores) q.is ∙ (ap (λ (y : View). y.attempt.stores) p.is ∙ k.unstored);
      marked = λ e m. absurd (let f : true ≡ false = sym m ∙ (ap (λ (y : View). y.attempt.entered) q.is ∙ (ap (λ (y : View). y.attempt.entered) p.is ∙ k.unentered)) in cc);
    }

pub leave-requires-clause-fence : goal.leave-requires-clause-fence
leave-requires-clause-fence g c =
    record {
      is = ap (λ (y : View). y.gate.fence) c.release_all.ensures.releases.is
          ∙ (ap (λ (y : View). y.gate.fence) c.write_back_all.ensures.pays.is ∙ c.requires.fence.is);
      fits = c.requires.fence.fits;
    }

pub returns-clause-finishes : goal.returns-clause-finishes
returns-clause-finishes g c =
    let v = c.args.seat.now.me.0.view in
    let p = c.write_back_all.ensures.pays in
    let q = c.release_all.ensures.releases in
    let u = c.release_all.new.seat.me.0.view in
    record {
      outside = c.leave.ensures.outside;
      before = u;
      unmade = record {
        carried = record {
          named = ap (λ (y : View). y.gate.algorithm) q.is ∙ ap (λ (y : View). y.gate.algorithm) p.is;
          base = ap (λ (y : View). y.steps.rises_at_begin) q.is ∙ ap (λ (y : View). y.steps.rises_at_begin) p.is;
          installs = ap (λ (y : View). y.steps.installs) q.is ∙ ap (λ (y : View). y.steps.installs) p.is;
          fence = ap (λ (y : View). y.fence) q.is ∙ ap (λ (y : View). y.fence) p.is;
          step_trace = (q.more ++ p.more, ap (λ (y : View). y.steps.step_trace) q.is ∙ (ap (λ (y : View). q.more ++ y.steps.step_trace) p.is ∙ sym (append_assoc q.more p.more v.steps.step_trace)));
          unlocked = ap (λ (y : View). y.lock.taken) q.is ∙ (ap (λ (y : View). y.lock.taken) p.is ∙ c.requires.view.unlocked);
          unwritten = ap (λ (y : View). y.tml.writer) q.is ∙ (ap (λ (y : View). y.tml.writer) p.is ∙ c.requires.view.unwritten);
        };
        history = ap (λ (y : View). y.history) q.is ∙ ap (λ (y : View). y.history) p.is;
      };
      rises = ap (λ (y : View). y.steps.rises) q.is ∙ ap (λ (y : View). y.steps.rises) p.is;
      is = ap (λ y. y.view) c.leave.ensures.left;
    }
