use Rattle.std.proofs.Common.{ℕ, ap, refl, rules, ◌∙◌}
use Rattle.stm_rule.specs.Attempts.{own_of}
use Rattle.stm_answers.specs.declared.answers.Cancel.TheVariants as cancels
use Rattle.stm_answers.specs.Answers as answers
use Rattle.stm_answers.specs.CallerState.{CallerState, is_irrevocable}
use Rattle.stm_gate.proofs.Opening.{opened, shows}
use Rattle.alg_seq.proofs.TmlLaws as laws
use Rattle.alg_seq.proofs.TmlOpening.{plain, inside, named}
use Rattle.alg_seq.proofs.tml.TmlAlgorithm.cancel.Goals as goal

pub returns-then-desc-clause-cancels : goal.returns-then-desc-clause-cancels
returns-then-desc-clause-cancels g c =
    let a = opened g.K.MemRule.good c.args.stm.now c.desc.inside.number c.desc.inside.local c.desc.view_is refl c.desc.invariant.0.named c.desc.invariant.0.low c.desc.invariant.1 c.requires.stm in (
      refl,
      ap is_irrevocable a.knows
          ∙ laws.irrevocable-granted _ _ _ _ _ _ (inside g.K.MemRule.good c.args.stm.now a c.requires.running c.requires.algorithm)
          (named g.K.MemRule.good c.args.stm.now a c.requires.running c.requires.algorithm) (search rules),
    )

pub returns-then-desc-2-clause-cancels : goal.returns-then-desc-2-clause-cancels
returns-then-desc-2-clause-cancels g c =
    let a = opened g.K.MemRule.good c.args.stm.now c.desc.inside.number c.desc.inside.local c.desc.view_is refl c.desc.invariant.0.named c.desc.invariant.0.low c.desc.invariant.1 c.requires.stm in
    (refl, ap is_irrevocable a.knows ∙ laws.irrevocable-writer _ _ _ (plain g.K.MemRule.good c.args.stm.now a c.requires.running c.requires.algorithm (search rules)) (search rules))

pub returns-clause-cancels : goal.returns-clause-cancels
returns-clause-cancels g c =
    let a = opened g.K.MemRule.good c.args.stm.now c.desc.inside.number c.desc.inside.local c.desc.view_is refl c.desc.invariant.0.named c.desc.invariant.0.low c.desc.invariant.1 c.requires.stm in
    shows _ _ a
    (λ (n : ℕ) (v w : CallerState).
    answers.Cancels (g.K.MemRule.good c.args.stm.now.rule) c.args.stm.now.config n (cancels.Cancelled c.desc.inside.local.start) v w)
    c.leave.new.seat.me.0.view c.leave.new.local (ap own_of c.leave.ensures.idle)
    (laws.tells-cancelled _ _ _ (plain g.K.MemRule.good c.args.stm.now a c.requires.running c.requires.algorithm (search rules)) c.leave.new.seat.me.0.view (search rules) (ap (λ q. q.view) c.leave.ensures.left))
