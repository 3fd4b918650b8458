use Rattle.std.proofs.Common.{refl, rules}
use Rattle.stm_model.specs.declared.alg.Alg.TheVariants.{OrecEager}
use Rattle.alg_orec.proofs.NestingOpening.{goes-on, irrevocable-now}
use Rattle.alg_orec.proofs.orec_eager.OrecEagerAlgorithm.roll_to.Goals as goal

pub returns-then-desc-clause-rolls : goal.returns-then-desc-clause-rolls
returns-then-desc-clause-rolls g c =
    let k = goes-on g.K.MemRule.good c.desc.inside.number c.desc.inside.local c.desc.view_is refl c.requires.running c.desc.invariant.1 in
    (refl, irrevocable-now k OrecEager refl c.requires.algorithm (search rules))
