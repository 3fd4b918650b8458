use Rattle.rule_orec.specs.OrecSteps.{orec_write_back, CanOrecWriteBack}
use Rattle.rule_base.specs.StepKinds.{Nothing}
use Rattle.stm_rule.specs.Kept.{good_of}
use Rattle.stm_rule.specs.Product.{Invariant}
use Rattle.stm_rule.proofs.KindLaws.Lifted.{orec_writes_back}
use Rattle.stm_rule.proofs.KindLaws.Allowing.{law_of}
use Rattle.alg_orec.proofs.lazy_steps.write_back.Goals as goal

pub store_as-requires-clause-law : goal.store_as-requires-clause-law
store_as-requires-clause-law g c =
    let f = c.args.stm.now.config in
    let m = good_of g.K.MemRule.good f c.args.stm.now.rule in
    let n = c.args.caller in
    law_of (Invariant m f) (orec_write_back c.args.a c.args.x) Nothing n (CanOrecWriteBack c.args.a c.args.x) c.args.seat.now.me.0.view (orec_writes_back m f n c.args.a c.args.x) c.requires.view
