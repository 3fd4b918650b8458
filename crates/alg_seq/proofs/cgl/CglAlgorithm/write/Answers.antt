use Rattle.std.proofs.Common.{subst, sym, ap, ◌≡◌, refl, ◌∙◌}
use Rattle.rule_base.specs.StepKinds.{Nothing, view_after}
use Rattle.stm_model.specs.Algorithms.{takes_lock, logs_writes, has_read_log}
use Rattle.stm_model.specs.declared.alg.Alg.TheVariants.{Cgl}
use Rattle.stm_rule.specs.Attempts.{own_of}
use Rattle.stm_rule.specs.Callers.{Handle, handle_of}
use Rattle.stm_rule.proofs.StandLemmas.{tells-of}
use Rattle.stm_gate.specs.Knowing.{known}
use Rattle.stm_gate.proofs.Standing.{runs-of, who-of}
use Rattle.rule_seq.specs.CglSteps.{store_heap}
use Rattle.rule_base.specs.declared.views.View.{View}
use Rattle.stm_answers.specs.declared.answers.Write.TheVariants.{Done}
use Rattle.stm_answers.specs.Answers.{HasWritten}
use Rattle.stm_answers.specs.CallerState.{known_of}
use Rattle.stm_gate.specs.InnerLaws.{no-log-full}
use Rattle.stm_gate.proofs.KeptLaws.{kept-same, kept-unlogged}
use Rattle.alg_seq.proofs.Locked.{tells-store, still-opaque, logged-refl}
use Rattle.stm_gate.proofs.Told.{told}
use Rattle.alg_seq.proofs.cgl.CglAlgorithm.write.Goals as goal

pub returns-clause-write : goal.returns-clause-write
returns-clause-write g c =
    let good = g.K.MemRule.good c.args.stm.now.rule in
    let o = own_of c.desc.inside.local in
    let i = runs-of g.K.MemRule.good c.args.stm.now.config c.args.stm.now.rule (handle_of c.desc.inside.seat o) c.args.desc.now
    c.desc.inside.number c.desc.inside.local c.desc.view_is c.requires.stm.config c.requires.stm.rule c.requires.running.0
    c.desc.invariant.1 in
    let named = subst (λ (h : Handle g.row.K.Denot). (known h).alg ≡ Cgl) (sym c.desc.view_is) c.requires.algorithm in
    let t = tells-of (store_heap c.args.a c.args.x) Nothing _ c.args.x _ c.store_heap.ensures.step in
    told (λ n v w. HasWritten good c.args.stm.now.config n c.args.a c.args.x Done v w) (handle_of c.desc.inside.seat o) c.args.desc.now c.desc.inside.number c.store_heap.new.seat.me.0 c.desc.inside.local c.desc.view_is
    (who-of (store_heap c.args.a c.args.x) Nothing c.desc.inside.seat.me.0 c.args.x c.store_heap.new.seat.me.0 c.store_heap.ensures.step) c.desc.invariant.0.named
    (subst (λ (y : View). HasWritten good c.args.stm.now.config c.desc.inside.number c.args.a c.args.x Done (known_of c.desc.inside.seat.me.0.view o) (known_of y o)) (sym t.2)
    (tells-store good c.args.stm.now.config c.desc.inside.number c.args.a c.args.x c.desc.inside.seat.me.0.view c.desc.inside.seat.me.0.view
    o t.0 i.phase (ap takes_lock named) (ap (λ (p : Handle g.row.K.Denot). (known p).committing) c.desc.view_is ∙ c.requires.running.1)
    (no-log-full c.args.a (known_of c.desc.inside.seat.me.0.view o) (ap has_read_log named) (ap logs_writes named)).1
    (kept-same c.desc.inside.seat.me.0.view.gate.algorithm c.desc.inside.seat.me.0.view
    (view_after (store_heap c.args.a c.args.x) t.0 c.desc.inside.seat.me.0.view c.args.x) o o refl refl refl
    ∙ sym (kept-unlogged c.args.a (known_of c.desc.inside.seat.me.0.view o) (ap logs_writes named)))
    (logged-refl c.desc.inside.seat.me.0.view) refl
    (still-opaque good c.args.stm.now.config c.desc.inside.number c.desc.inside.local c.desc.inside.seat.me.0.view o i)))
