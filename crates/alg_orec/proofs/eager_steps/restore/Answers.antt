use Rattle.rule_orec.specs.OrecSteps.{orec_restore, CanOrecRestore}
use Rattle.rule_base.specs.StepKinds.{Nothing}
use Rattle.stm_rule.specs.Kept.{good_of}
use Rattle.stm_rule.specs.Product.{Invariant}
use Rattle.stm_rule.proofs.KindLaws.Lifted.{orec_restores}
use Rattle.stm_rule.proofs.KindLaws.Allowing.{law_of}
use Rattle.alg_orec.proofs.eager_steps.restore.Goals as goal

pub store_as-requires-clause-law : goal.store_as-requires-clause-law
store_as-requires-clause-law g c =
    let f = c.args.stm.now.config in
    let m = good_of g.K.MemRule.good f c.args.stm.now.rule in
    let n = c.args.caller in
    law_of (Invariant m f) (orec_restore c.args.a c.args.x) Nothing n (CanOrecRestore c.args.a c.args.x) c.args.seat.now.me.0.view (orec_restores m f n c.args.a c.args.x) c.requires.view
