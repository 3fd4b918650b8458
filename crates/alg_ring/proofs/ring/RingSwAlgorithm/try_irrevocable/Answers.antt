use Rattle.std.proofs.Common.{ℕ, ◌≡◌, subst, sym, ap, refl, rules, ◌∙◌}
use Rattle.rule_base.specs.declared.seats.Who.{Who}
use Rattle.stm_rule.specs.Attempts.{own_of}
use Rattle.stm_answers.specs.Answers.{TriesIrrevocable}
use Rattle.stm_answers.specs.CallerState.{CallerState, known_of, caller_of}
use Rattle.stm_gate.specs.Granting.{Grants, irrevs-after, irrevocable-already}
use Rattle.stm_gate.specs.Knowing.{known, number}
use Rattle.alg_ring.proofs.Opening.{opened, has-attempt}
use Rattle.alg_ring.proofs.Running as attempt
use Rattle.alg_ring.proofs.ring.RingSwAlgorithm.try_irrevocable.Goals as goal

pub returns-then-desc-clause-irrevs : goal.returns-then-desc-clause-irrevs
returns-then-desc-clause-irrevs g c =
    let a = opened g.K.MemRule.good c.args.stm.now c.desc.inside.number c.desc.inside.local c.desc.view_is refl c.desc.invariant.0.named c.desc.invariant.0.low c.desc.invariant.1 c.requires.stm in
    let at = has-attempt g.K.MemRule.good c.args.stm.now a c.requires.running.0 c.requires.algorithm in
    subst (λ (k : CallerState). TriesIrrevocable (g.K.MemRule.good c.args.stm.now.rule) c.args.stm.now.config (number c.args.desc.now) k k)
    (sym a.knows) (subst (λ (n : ℕ).
    TriesIrrevocable (g.K.MemRule.good c.args.stm.now.rule) c.args.stm.now.config n
    (known_of c.desc.inside.seat.me.0.view (own_of c.desc.inside.local))
    (known_of c.desc.inside.seat.me.0.view (own_of c.desc.inside.local))) (sym a.name)
    (irrevocable-already _ _ _ _ _ (own_of c.desc.inside.local)
    (ap (λ (k : CallerState). k.committing) (sym a.knows) ∙ c.requires.running.1) (attempt.inside _ _ _ _ _ at)
    (attempt.irrevocable-is _ _ _ _ _ at ∙ (search rules))))

pub returns-in-Alone-clause-irrevs : goal.returns-in-Alone-clause-irrevs
returns-in-Alone-clause-irrevs g c =
    let name : number c.promote.new.desc ≡ number c.args.desc.now = ap (λ (w : Who g.row.K.Denot). caller_of w.role) c.promote.ensures.same.who in
    irrevs-after (g.K.MemRule.good c.args.stm.now.rule) c.args.stm.now.config (number c.args.desc.now) c.grant.result
    (known c.args.desc.now) (known c.promote.new.desc) (known c.grant.new.desc) c.in-Alone.ensures.promotes.0 c.in-Alone.ensures.promotes.3
    (subst (λ (k : ℕ).
    Grants (g.K.MemRule.good c.args.stm.now.rule) c.args.stm.now.config k c.grant.result (known c.promote.new.desc)
    (known c.grant.new.desc)) name c.grant.ensures.grants)
