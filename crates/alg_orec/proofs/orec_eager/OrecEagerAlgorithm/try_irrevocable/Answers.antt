use Rattle.std.proofs.Common.{refl, rules}
use Rattle.stm_model.specs.declared.alg.Alg.TheVariants.{OrecEager}
use Rattle.stm_gate.proofs.Opening.{opened}
use Rattle.alg_orec.proofs.GrantOpening.{already, granted-alone}
use Rattle.alg_orec.proofs.orec_eager.OrecEagerAlgorithm.try_irrevocable.Goals as goal

pub returns-then-desc-clause-irrevs : goal.returns-then-desc-clause-irrevs
returns-then-desc-clause-irrevs g c =
    let a = opened g.K.MemRule.good c.args.stm.now c.desc.inside.number c.desc.inside.local c.desc.view_is refl c.desc.invariant.0.named c.desc.invariant.0.low c.desc.invariant.1 c.requires.stm in
    already g.K.MemRule.good c.args.stm.now a c.requires.running OrecEager refl c.requires.algorithm (search rules)

pub returns-in-Alone-clause-irrevs : goal.returns-in-Alone-clause-irrevs
returns-in-Alone-clause-irrevs g c =
    granted-alone (g.K.MemRule.good c.args.stm.now.rule) c.args.stm.now.config c.grant.result c.args.desc.now c.promote.new.desc
    c.grant.new.desc c.promote.ensures.same.who c.in-Alone.ensures.promotes.0 c.in-Alone.ensures.promotes.3 c.grant.ensures.grants
