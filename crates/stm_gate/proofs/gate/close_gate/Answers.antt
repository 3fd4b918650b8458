use Rattle.std.proofs.Common.{ℕ, ◌≡◌, ◌<◌, subst, sym, ap, refl, rules}
use Rattle.stm_model.specs.declared.config.Config.{Config}
use Rattle.rule_base.specs.declared.views.Phase.TheVariants.{Idle}
use Rattle.rule_base.specs.GateSteps.{announce, aim, take_gate, depart}
use Rattle.rule_base.specs.StepKinds.{Nothing}
use Rattle.stm_rule.specs.Attempts.{good_by, own_of}
use Rattle.stm_rule.specs.Callers.{Handle, handle_of}
use Rattle.stm_rule.specs.Findings.{FindsGate, FindsTaken}
use Rattle.stm_rule.proofs.StandLemmas.{tells-of, outside-of}
use Rattle.stm_answers.specs.declared.answers.CloseGate.TheVariants.{Closed, Taken}
use Rattle.stm_answers.specs.Answers.{Closes}
use Rattle.stm_answers.specs.CallerState.{CallerState, caller_of}
use Rattle.stm_gate.proofs.Standing.{shown-of}
use Rattle.stm_gate.proofs.Closing.{tells-taken, tells-refused, tells-closed}
use Rattle.stm_gate.proofs.gate.close_gate.Goals as goal

pub returns-then-holder_of-ne0-clause-closes : goal.returns-then-holder_of-ne0-clause-closes
returns-then-holder_of-ne0-clause-closes g c =
    shown-of
    (λ (n : ℕ) (v w : CallerState). Closes (g.K.MemRule.good c.args.stm.now.rule) c.args.stm.now.config n (Taken c.aim-gate.result) v w)
    (handle_of c.desc.inside.seat (own_of c.desc.inside.local)) c.args.desc.now c.desc.inside.number c.depart.new.seat.me.0.view
    c.desc.inside.local c.desc.inside.local c.desc.view_is refl (ap caller_of c.desc.invariant.0.named)
    (tells-taken (g.K.MemRule.good c.args.stm.now.rule) c.args.stm.now.config c.desc.inside.number c.aim-gate.result
    c.desc.inside.seat.me.0.view c.announce.new.seat.me.0.view c.aim-gate.new.seat.me.0.view c.depart.new.seat.me.0.view
    (own_of c.desc.inside.local)
    (subst (λ (q : Config). c.desc.inside.number < q.callers)
    (subst (λ (p : Handle g.row.K.Denot). p.who.config ≡ c.args.stm.now.config) (sym c.desc.view_is) c.requires.stm.config)
    c.desc.invariant.0.low)
    (outside-of (good_by g.K.MemRule.good c.desc.inside.seat.me.0.who.rule) c.desc.inside.seat.me.0.who.config c.desc.inside.number
    c.desc.inside.local c.desc.inside.seat.me.0.view
    (subst (λ (p : Handle g.row.K.Denot). p.view.gate.phase ≡ Idle) (sym c.desc.view_is) c.requires.idle.0) c.desc.invariant.1)
    (search rules)
    (tells-of (announce c.desc.inside.number) Nothing c.desc.inside.seat.me.0 1 c.announce.new.seat.me.0 c.announce.ensures.step)
    (tells-of aim (FindsGate c.args.stm.now.config c.desc.inside.number) c.announce.new.seat.me.0 c.aim-gate.result c.aim-gate.new.seat.me.0
    c.aim-gate.ensures.step)
    (tells-of (depart c.desc.inside.number) Nothing c.aim-gate.new.seat.me.0 0 c.depart.new.seat.me.0 c.depart.ensures.step))

pub returns-then-found-gate-clause-closes : goal.returns-then-found-gate-clause-closes
returns-then-found-gate-clause-closes g c =
    shown-of (λ (n : ℕ) (v w : CallerState).
    Closes (g.K.MemRule.good c.args.stm.now.rule) c.args.stm.now.config n (Taken c.take_gate-found.result) v w)
    (handle_of c.desc.inside.seat (own_of c.desc.inside.local)) c.args.desc.now c.desc.inside.number c.depart-2.new.seat.me.0.view
    c.desc.inside.local c.desc.inside.local c.desc.view_is refl (ap caller_of c.desc.invariant.0.named)
    (tells-refused (g.K.MemRule.good c.args.stm.now.rule) c.args.stm.now.config c.desc.inside.number c.aim-gate.result
    c.take_gate-found.result c.desc.inside.seat.me.0.view c.announce.new.seat.me.0.view c.aim-gate.new.seat.me.0.view
    c.take_gate-found.new.seat.me.0.view c.depart-2.new.seat.me.0.view (own_of c.desc.inside.local)
    (subst (λ (q : Config). c.desc.inside.number < q.callers)
    (subst (λ (p : Handle g.row.K.Denot). p.who.config ≡ c.args.stm.now.config) (sym c.desc.view_is) c.requires.stm.config)
    c.desc.invariant.0.low) (outside-of (good_by g.K.MemRule.good c.desc.inside.seat.me.0.who.rule) c.desc.inside.seat.me.0.who.config
    c.desc.inside.number c.desc.inside.local c.desc.inside.seat.me.0.view
    (subst (λ (p : Handle g.row.K.Denot). p.view.gate.phase ≡ Idle) (sym c.desc.view_is) c.requires.idle.0) c.desc.invariant.1)
    (search rules)
    (tells-of (announce c.desc.inside.number) Nothing c.desc.inside.seat.me.0 1 c.announce.new.seat.me.0 c.announce.ensures.step)
    (tells-of aim (FindsGate c.args.stm.now.config c.desc.inside.number) c.announce.new.seat.me.0 c.aim-gate.result c.aim-gate.new.seat.me.0
    c.aim-gate.ensures.step)
    (tells-of (take_gate c.desc.inside.number c.aim-gate.result) (FindsTaken c.args.stm.now.config c.desc.inside.number c.aim-gate.result)
    c.aim-gate.new.seat.me.0 c.take_gate-found.result c.take_gate-found.new.seat.me.0 c.take_gate-found.ensures.step)
    (tells-of (depart c.desc.inside.number) Nothing c.take_gate-found.new.seat.me.0 0 c.depart-2.new.seat.me.0 c.depart-2.ensures.step))

pub returns-clause-closes : goal.returns-clause-closes
returns-clause-closes g c =
    shown-of (λ (n : ℕ) (v w : CallerState). Closes (g.K.MemRule.good c.args.stm.now.rule) c.args.stm.now.config n Closed v w) _ _ _
    c.depart-2.new.seat.me.0.view c.desc.inside.local c.desc.inside.local c.desc.view_is refl (ap caller_of c.desc.invariant.0.named)
    (tells-closed _ _ _ c.aim-gate.result c.take_gate-found.result c.desc.inside.seat.me.0.view c.announce.new.seat.me.0.view
    c.aim-gate.new.seat.me.0.view c.take_gate-found.new.seat.me.0.view c.depart-2.new.seat.me.0.view (own_of c.desc.inside.local)
    (outside-of (good_by g.K.MemRule.good c.desc.inside.seat.me.0.who.rule) c.desc.inside.seat.me.0.who.config c.desc.inside.number
    c.desc.inside.local c.desc.inside.seat.me.0.view
    (subst (λ (p : Handle g.row.K.Denot). p.view.gate.phase ≡ Idle) (sym c.desc.view_is) c.requires.idle.0) c.desc.invariant.1)
    (search rules) (search rules) (tells-of (announce c.desc.inside.number) Nothing _ 1 _ c.announce.ensures.step)
    (tells-of aim (FindsGate c.args.stm.now.config c.desc.inside.number) _ c.aim-gate.result _ c.aim-gate.ensures.step)
    (tells-of (take_gate c.desc.inside.number c.aim-gate.result) (FindsTaken c.args.stm.now.config c.desc.inside.number c.aim-gate.result) _
    c.take_gate-found.result _ c.take_gate-found.ensures.step)
    (tells-of (depart c.desc.inside.number) Nothing _ 0 _ c.depart-2.ensures.step))
