use Rattle.rule_seq.specs.CglSteps.{store_back, CanStoreBack}
use Rattle.rule_base.specs.StepKinds.{Nothing}
use Rattle.stm_rule.specs.Kept.{good_of}
use Rattle.stm_rule.proofs.KindLaws.Lifted.{stores_back}
use Rattle.stm_rule.specs.Product.{Invariant}
use Rattle.stm_rule.proofs.KindLaws.Allowing.{law_of}
use Rattle.stm_rule.proofs.stm.Stm.store_back.Goals as goal

pub store_as-requires-clause-law : goal.store_as-requires-clause-law
store_as-requires-clause-law g c =
    let f = c.args.self.now.config in
    let m = good_of g.K.MemRule.good f c.args.self.now.rule in
    let n = c.args.caller in
    law_of (Invariant m f) (store_back c.args.a c.args.x) Nothing n (CanStoreBack c.args.a c.args.x) c.args.seat.now.me.0.view (stores_back m f n c.args.a c.args.x) c.requires.view
