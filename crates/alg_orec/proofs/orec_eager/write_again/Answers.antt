use Rattle.std.proofs.Common.{ℕ, ◌≡◌, ◌∙◌, sym, true, rules}
use Rattle.stm_model.specs.Memories.{item_at}
use Rattle.rule_base.specs.History.{member}
use Rattle.rule_base.specs.StepKinds.{Nothing}
use Rattle.rule_orec.specs.OrecSteps.{orec_place}
use Rattle.stm_rule.specs.Attempts.{own_of}
use Rattle.stm_rule.specs.Callers.{handle_of}
use Rattle.stm_rule.proofs.StandLemmas.{tells-of}
use Rattle.stm_answers.specs.Causes.{is_some}
use Rattle.stm_answers.specs.CallerState.{CallerState}
use Rattle.stm_gate.proofs.Opening.{of-view}
use Rattle.alg_orec.proofs.Eager.EagerOpening.{EagerOpening, answers-stored, opens-eager, stays-stored}
use Rattle.alg_orec.proofs.Eager.EagerWriteLaws as laws
use Rattle.alg_orec.proofs.orec_eager.write_again.Goals.{After-desc}
use Rattle.alg_orec.proofs.orec_eager.write_again.Goals as goal

opened : (g : _) (c : After-desc g) → EagerOpening g.K.MemRule.good c.args.stm.now c.args.desc.now c.desc.inside.seat.me c.desc.inside.number c.desc.inside.local
opened g c =
    opens-eager g.K.MemRule.good c.args.stm.now c.desc.inside.number c.desc.inside.local c.desc.inside.seat.me
    (handle_of c.desc.inside.seat (own_of c.desc.inside.local)) c.desc.view_is c.desc.invariant.0 c.desc.invariant.1 c.requires.stm
    c.requires.running c.requires.algorithm c.requires.revocable

-- its old value is kept
there : (g : _) (c : After-desc g) → is_some (item_at c.args.a c.desc.inside.local.undo.items) ≡ true
there g c = let o = opened g c in
    sym (laws.is-kept _ _ _ _ _ o.runs c.args.a) ∙ of-view _ _ o.call.opening (λ (n : ℕ) (v : CallerState). member v.kept c.args.a ≡ true) c.requires.saved

pub place-requires-clause-view : goal.place-requires-clause-view
place-requires-clause-view g c =
    let at = (goal.at.place-requires-clause-view g c).After-desc in
    laws.may-place _ _ _ _ _ (opened g at).runs c.args.a (there g at)

pub invariant_of-desc : goal.invariant_of-desc
invariant_of-desc g c =
    let at = goal.at.invariant_of-desc g c in
    let o = opened g at.After-desc in
    let stores = laws.stores-again _ _ _ _ _ o.runs c.args.a c.args.x _ c.push.result _ o.lengths (there g at.After-desc)
    (tells-of (orec_place c.args.a c.args.x) Nothing _ c.args.x _ c.place.ensures.step) c.push.ensures in
    stays-stored _ _ o c.args.a c.args.x (record c.desc.inside.local { writes = c.push.new.self; wrote = true }) c.place.new.seat.me stores c.requires.inside (search rules) c.place.ensures.step.3 c.place.ensures.same.2

pub returns-clause-write : goal.returns-clause-write
returns-clause-write g c =
    let at = goal.at.returns-clause-write g c in
    let o = opened g at.After-desc in
    let stores = laws.stores-again _ _ _ _ _ o.runs c.args.a c.args.x _ c.push.result _ o.lengths (there g at.After-desc)
    (tells-of (orec_place c.args.a c.args.x) Nothing _ c.args.x _ c.place.ensures.step) c.push.ensures in
    answers-stored _ _ o c.args.a c.args.x (record c.desc.inside.local { writes = c.push.new.self; wrote = true }) c.place.new.seat.me stores (laws.room-again _ _ _ _ _ o.runs c.args.a (there g at.After-desc))
