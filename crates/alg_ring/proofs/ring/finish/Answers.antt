use Rattle.std.proofs.Common.{sym, ap, ◌∙◌, subst}
use Rattle.rule_base.specs.declared.views.View.{View}
use Rattle.stm_gate.specs.Leaving.{CanLeave, left}
use Rattle.alg_ring.proofs.Finishing as laws
use Rattle.alg_ring.proofs.Running.{inside}
use Rattle.alg_ring.proofs.ring.finish.Goals as goal

pub free-requires-clause-view : goal.free-requires-clause-view
free-requires-clause-view g c = let b = c.requires.turn in (c.commit_locked-answer.ensures.decides b.0 b.1).free

pub leave-requires-clause-view : goal.leave-requires-clause-view
leave-requires-clause-view g c =
    subst CanLeave (sym (laws.freed-is c.commit_locked-answer.new.seat.me.0 c.free.new.seat.me.0 c.free.ensures.step)) (c.commit_locked-answer.ensures.decides c.requires.turn.0 c.requires.turn.1).leave

pub leave-requires-clause-holds : goal.leave-requires-clause-holds
leave-requires-clause-holds g c =
    c.requires.turn.1.has.attempt.stands.holds
    ∙ sym (ap (λ (y : View). y.gate.holds) (laws.freed-is c.commit_locked-answer.new.seat.me.0 c.free.new.seat.me.0 c.free.ensures.step)
    ∙ ap (λ h. h.holds) (c.commit_locked-answer.ensures.decides c.requires.turn.0 c.requires.turn.1).gate)

pub leave-requires-clause-named : goal.leave-requires-clause-named
leave-requires-clause-named g c =
    sym (inside (g.K.MemRule.good c.args.stm.now.rule) c.args.stm.now.config c.args.caller c.args.local.now c.requires.turn.0
    c.requires.turn.1.has.attempt).named
    ∙ sym (ap (λ (y : View). y.gate.algorithm) (laws.freed-is c.commit_locked-answer.new.seat.me.0 c.free.new.seat.me.0 c.free.ensures.step)
    ∙ ap (λ h. h.algorithm) (c.commit_locked-answer.ensures.decides c.requires.turn.0 c.requires.turn.1).gate)

pub returns-clause-finishes : goal.returns-clause-finishes
returns-clause-finishes g c = λ before turn.
    let f = c.args.stm.now.config in
    let good = g.K.MemRule.good c.args.stm.now.rule in
    let n = c.args.caller in
    let u = c.commit_locked-answer.new.seat.me.0 in
    let is = laws.freed-is u c.free.new.seat.me.0 c.free.ensures.step in
    let r = c.leave.ensures in
    laws.finishes good f n c.commit_locked-answer.result c.args.local.now c.leave.new.local before u.view c.leave.new.seat.me.0.view
    (c.commit_locked-answer.ensures.decides before turn) turn.has.attempt.stands.lengths (ap (λ y. y.view) r.left ∙ ap (left n) is) r.idle
    r.outside
