use Rattle.std.proofs.Common.{◌≡◌, ◌<◌, refl, subst, sym, ap, rules}
use Rattle.rule_base.specs.declared.views.Phase.TheVariants.{Idle}
use Rattle.rule_base.specs.GateSteps.{announce, load_gate, depart}
use Rattle.rule_base.specs.StepKinds.{Nothing}
use Rattle.stm_model.specs.declared.rule.AnyMem.{AnyMem}
use Rattle.stm_rule.specs.Attempts.{own_of}
use Rattle.stm_rule.specs.Callers.{Handle, handle_of}
use Rattle.stm_rule.specs.Findings.{FindsGate}
use Rattle.stm_rule.proofs.StandLemmas.{tells-of, outside-of}
use Rattle.stm_gate.proofs.Standing.{shown-of}
use Rattle.stm_answers.specs.CallerState.{caller_of}
use Rattle.tx_checked.specs.Alone.{LooksAtGate}
use Rattle.tx_checked.proofs.GateLooks.{can-depart, looks}
use Rattle.tx_checked.proofs.alone_for_range.look_at_gate.Goals as goal

pub depart-requires-clause-view : goal.depart-requires-clause-view
depart-requires-clause-view c =
    let f = c.args.stm.now.config in
    let d = c.desc.inside in
    let v = d.seat.me.0 in
    let s = c.announce.new.seat.me.0 in
    let gate = c.load_gate-gate.result in
    let t = c.load_gate-gate.new.seat.me.0 in
    let out = outside-of _ _ d.number d.local v.view
    (subst (λ (h : Handle AnyMem). h.view.gate.phase ≡ Idle) (sym c.desc.view_is) c.requires.idle.0) c.desc.invariant.1 in
    can-depart f d.number gate v.view s.view t.view out
    (tells-of (announce d.number) Nothing v 1 s c.announce.ensures.step)
    (tells-of load_gate (FindsGate f d.number) s gate t c.load_gate-gate.ensures.step)

pub returns-clause-looks : goal.returns-clause-looks
returns-clause-looks c =
    let f = c.args.stm.now.config in
    let d = c.desc.inside in
    let v = d.seat.me.0 in
    let s = c.announce.new.seat.me.0 in
    let gate = c.load_gate-gate.result in
    let t = c.load_gate-gate.new.seat.me.0 in
    let w = c.depart.new.seat.me.0 in
    let o = own_of d.local in
    let out = outside-of _ _ d.number d.local v.view
    (subst (λ (h : Handle AnyMem). h.view.gate.phase ≡ Idle) (sym c.desc.view_is) c.requires.idle.0) c.desc.invariant.1 in
    let low : d.number < f.callers = search rules in
    shown-of (λ n x y. LooksAtGate f n gate x y) (handle_of d.seat o) c.args.desc.now d.number w.view d.local d.local c.desc.view_is refl (ap caller_of c.desc.invariant.0.named)
    (looks f d.number gate v.view s.view t.view w.view o low out
    (tells-of (announce d.number) Nothing v 1 s c.announce.ensures.step)
    (tells-of load_gate (FindsGate f d.number) s gate t c.load_gate-gate.ensures.step)
    (tells-of (depart d.number) Nothing t 0 w c.depart.ensures.step))
