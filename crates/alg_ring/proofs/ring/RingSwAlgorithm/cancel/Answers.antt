use Rattle.std.proofs.Common.{ℕ, subst, sym, ap, refl, rules, ◌∙◌}
use Rattle.stm_rule.specs.declared.local.Local.{Local}
use Rattle.stm_rule.specs.Attempts.{own_of}
use Rattle.stm_answers.specs.declared.answers.Cancel.TheVariants as cancels
use Rattle.stm_answers.specs.Answers as answers
use Rattle.stm_answers.specs.CallerState.{CallerState, known_of, is_irrevocable}
use Rattle.alg_ring.proofs.Opening.{opened, has-attempt, tells-of}
use Rattle.alg_ring.proofs.Ending as laws
use Rattle.alg_ring.proofs.Running as attempt
use Rattle.alg_ring.proofs.ring.RingSwAlgorithm.cancel.Goals as goal

pub returns-then-desc-clause-cancels : goal.returns-then-desc-clause-cancels
returns-then-desc-clause-cancels g c =
    let a = opened g.K.MemRule.good c.args.stm.now c.desc.inside.number c.desc.inside.local c.desc.view_is refl c.desc.invariant.0.named c.desc.invariant.0.low c.desc.invariant.1 c.requires.stm in
    (refl, ap is_irrevocable a.knows ∙ (attempt.irrevocable-is _ _ _ _ _ (has-attempt g.K.MemRule.good c.args.stm.now a c.requires.running c.requires.algorithm) ∙ (search rules)))

pub leave-requires-clause-view : goal.leave-requires-clause-view
leave-requires-clause-view g c =
    let at = has-attempt g.K.MemRule.good c.args.stm.now
    (opened g.K.MemRule.good c.args.stm.now c.desc.inside.number c.desc.inside.local c.desc.view_is refl c.desc.invariant.0.named
    c.desc.invariant.0.low c.desc.invariant.1 c.requires.stm) c.requires.running c.requires.algorithm in
    laws.may-leave _ _ _ _ _ (attempt.inside _ _ _ _ _ at) at.named (attempt.kept _ _ _ _ _ at (search rules))

pub returns-clause-cancels : goal.returns-clause-cancels
returns-clause-cancels g c =
    let a = opened g.K.MemRule.good c.args.stm.now c.desc.inside.number c.desc.inside.local c.desc.view_is refl c.desc.invariant.0.named c.desc.invariant.0.low c.desc.invariant.1 c.requires.stm in
    let at = has-attempt g.K.MemRule.good c.args.stm.now a c.requires.running c.requires.algorithm in
    let P = λ (n : ℕ) (v w : CallerState). answers.Cancels (g.K.MemRule.good c.args.stm.now.rule) c.args.stm.now.config n (cancels.Cancelled c.desc.inside.local.start) v w in
    tells-of g.K.MemRule.good c.args.stm.now a P (known_of c.leave.new.seat.me.0.view (own_of c.leave.new.local)) (subst (λ (m : Local).
    P c.desc.inside.number (known_of c.desc.inside.seat.me.0.view (own_of c.desc.inside.local))
    (known_of c.leave.new.seat.me.0.view (own_of m))) (sym c.leave.ensures.idle)
    (laws.tells-cancelled _ _ _ _ _ (attempt.inside _ _ _ _ _ at) at.named (attempt.kept _ _ _ _ _ at (search rules)) (own_of c.desc.inside.local) c.leave.new.seat.me.0.view (ap (λ q. q.view) c.leave.ensures.left)))
