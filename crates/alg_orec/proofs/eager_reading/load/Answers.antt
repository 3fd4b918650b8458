use Rattle.std.proofs.Common.{ℕ, [], ◌∷◌, refl, sym, ap, subst}
use Rattle.rule_base.specs.declared.layout.At.TheVariants.{Heap}
use Rattle.rule_base.specs.declared.views.View.{View}
use Rattle.rule_base.specs.StepKinds.{Nothing, Tells}
use Rattle.rule_orec.specs.OrecSteps.{orec_load}
use Rattle.stm_rule.specs.Attempts.{own_of}
use Rattle.stm_rule.specs.Callers.{handle_of}
use Rattle.stm_rule.proofs.StandLemmas.{tells-of}
use Rattle.stm_answers.specs.CallerState.{CallerState}
use Rattle.stm_gate.proofs.Opening.{of-view, of-seen, shows}
use Rattle.alg_orec.proofs.Eager.EagerOpening.{EagerOpening, opens-eager}
use Rattle.alg_orec.proofs.RecordOpening.{stays-tied}
use Rattle.alg_orec.proofs.Eager.EagerReadLaws as laws
use Rattle.alg_orec.specs.EagerReading.{IsNew, HasSample, LoadsSampled, GoesOnReading}
use Rattle.alg_orec.specs.Validating.{load_of}
use Rattle.alg_orec.proofs.eager_reading.load.Goals.{After-desc, After-load}
use Rattle.alg_orec.proofs.eager_reading.load.Goals as goal

opened : (g : _) (c : After-desc g) → EagerOpening g.K.MemRule.good c.args.stm.now c.args.desc.now c.desc.inside.seat.me c.desc.inside.number c.desc.inside.local
opened g c =
    opens-eager g.K.MemRule.good c.args.stm.now c.desc.inside.number c.desc.inside.local c.desc.inside.seat.me
    (handle_of c.desc.inside.seat (own_of c.desc.inside.local)) c.desc.view_is c.desc.invariant.0 c.desc.invariant.1 c.requires.stm
    c.requires.running c.requires.algorithm c.requires.revocable

loaded : (g : _) (c : After-load g) → Tells (orec_load c.args.a) Nothing c.desc.inside.seat.me.0.view c.load.result c.load.new.seat.me.0.view
loaded g c = tells-of (orec_load c.args.a) Nothing _ _ _ c.load.ensures.step

pub load-requires-clause-view : goal.load-requires-clause-view
load-requires-clause-view g c =
    let o = opened g (goal.at.load-requires-clause-view g c).After-desc in
    laws.may-load _ _ _ _ _ o.runs c.args.a (of-seen _ _ o.call.opening (λ (n : ℕ) (v : View). HasSample c.args.a v) c.requires.sampled)

pub invariant_of-desc : goal.invariant_of-desc
invariant_of-desc g c =
    let at = goal.at.invariant_of-desc g c in
    let o = opened g at.After-desc in
    let t = loaded g at.After-load in
    stays-tied _ _ o.call c.desc.inside.local c.load.new.seat.me c.load.ensures.step.3 c.load.ensures.same.2 refl refl o.lengths (ap (λ (y : View). y.gate.holds) t.2)
    (laws.stays-loaded _ _ _ _ _ o.runs c.args.a c.load.result c.load.new.seat.me.0.view t)

pub returns-clause-goes : goal.returns-clause-goes
returns-clause-goes g c =
    let at = goal.at.returns-clause-goes g c in
    let o = opened g at.After-desc in
    shows _ _ o.call.opening
    (λ (n : ℕ) (v w : CallerState).
    GoesOnReading (g.K.MemRule.good c.args.stm.now.rule) c.args.stm.now.config n c.args.a (load_of (Heap c.args.a) c.load.result ∷ []) v w)
    c.load.new.seat.me.0.view c.desc.inside.local refl
    (laws.reads-loaded _ _ _ _ _ o.runs c.args.a c.load.result _ (loaded g at.After-load) (of-view _ _ o.call.opening (λ n v. IsNew c.args.a v) c.requires.fresh))

pub returns-clause-loads : goal.returns-clause-loads
returns-clause-loads g c =
    let at = goal.at.returns-clause-loads g c in
    let o = opened g at.After-desc in
    subst (λ (v : View). LoadsSampled c.args.stm.now.config c.args.a c.load.result v c.load.new.seat.me.0.view) (sym o.call.opening.view)
    (laws.is-loaded _ _ _ _ _ o.runs c.args.a c.load.result _ (loaded g at.After-load))
