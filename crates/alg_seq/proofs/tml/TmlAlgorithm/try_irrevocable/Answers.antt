use Rattle.std.proofs.Common.{ℕ, subst, sym, ap, refl, rules, ◌∙◌}
use Rattle.rule_base.specs.declared.seats.Who.{Who}
use Rattle.stm_answers.specs.Answers as answers
use Rattle.stm_answers.specs.CallerState.{CallerState, caller_of}
use Rattle.stm_gate.specs.Knowing.{known, number}
use Rattle.stm_gate.specs.Granting.{Grants, irrevs-after, irrevocable-already}
use Rattle.stm_gate.proofs.Opening.{opened, is-known}
use Rattle.alg_seq.proofs.TmlLaws as laws
use Rattle.alg_seq.proofs.TmlOpening.{plain, inside, named}
use Rattle.alg_seq.proofs.tml.TmlAlgorithm.try_irrevocable.Goals as goal

pub returns-then-desc-clause-irrevs : goal.returns-then-desc-clause-irrevs
returns-then-desc-clause-irrevs g c =
    let a = opened g.K.MemRule.good c.args.stm.now c.desc.inside.number c.desc.inside.local c.desc.view_is refl c.desc.invariant.0.named c.desc.invariant.0.low c.desc.invariant.1 c.requires.stm in
    is-known _ _ a
    (λ (n : ℕ) (v : CallerState). answers.TriesIrrevocable (g.K.MemRule.good c.args.stm.now.rule) c.args.stm.now.config n v v)
    (irrevocable-already _ _ _ _ _ _ (ap (λ (k : CallerState). k.committing) (sym a.knows) ∙ c.requires.running.1)
    (inside g.K.MemRule.good c.args.stm.now a c.requires.running.0 c.requires.algorithm)
    (laws.irrevocable-granted _ _ _ _ _ _ (inside g.K.MemRule.good c.args.stm.now a c.requires.running.0 c.requires.algorithm)
    (named g.K.MemRule.good c.args.stm.now a c.requires.running.0 c.requires.algorithm) (search rules)))

pub returns-then-desc-2-clause-irrevs : goal.returns-then-desc-2-clause-irrevs
returns-then-desc-2-clause-irrevs g c =
    let a = opened g.K.MemRule.good c.args.stm.now c.desc.inside.number c.desc.inside.local c.desc.view_is refl c.desc.invariant.0.named c.desc.invariant.0.low c.desc.invariant.1 c.requires.stm in
    let p = plain g.K.MemRule.good c.args.stm.now a c.requires.running.0 c.requires.algorithm (search rules) in
    is-known _ _ a
    (λ (n : ℕ) (v : CallerState). answers.TriesIrrevocable (g.K.MemRule.good c.args.stm.now.rule) c.args.stm.now.config n v v)
    (irrevocable-already _ _ _ _ _ _ p.quiet p.inside (laws.irrevocable-writer _ _ _ p (search rules)))

pub returns-in-Alone-clause-irrevs : goal.returns-in-Alone-clause-irrevs
returns-in-Alone-clause-irrevs g c =
    irrevs-after (g.K.MemRule.good c.args.stm.now.rule) c.args.stm.now.config (number c.args.desc.now) c.grant.result
    (known c.args.desc.now) (known c.promote.new.desc) (known c.grant.new.desc) c.in-Alone.ensures.promotes.0 c.in-Alone.ensures.promotes.3
    (subst (λ (k : ℕ).
    Grants (g.K.MemRule.good c.args.stm.now.rule) c.args.stm.now.config k c.grant.result (known c.promote.new.desc)
    (known c.grant.new.desc)) (ap (λ (w : Who g.row.K.Denot). caller_of w.role) c.promote.ensures.same.who) c.grant.ensures.grants)
