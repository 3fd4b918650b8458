use Rattle.rule_base.specs.FenceSteps.{fence_store, CanFenceStore}
use Rattle.rule_base.specs.StepKinds.{Nothing}
use Rattle.stm_rule.specs.Kept.{good_of}
use Rattle.stm_rule.proofs.KindLaws.FencingLaws.{fence_stores}
use Rattle.stm_rule.specs.Product.{Invariant}
use Rattle.stm_rule.proofs.KindLaws.Allowing.{law_of}
use Rattle.stm_rule.proofs.stm.Stm.fence_store.Goals as goal

pub store_own_as-requires-clause-law : goal.store_own_as-requires-clause-law
store_own_as-requires-clause-law g c =
    let f = c.args.self.now.config in
    let m = good_of g.K.MemRule.good f c.args.self.now.rule in
    let n = c.args.caller in
    law_of (Invariant m f) (fence_store c.args.a c.args.x) Nothing n (CanFenceStore c.args.a c.args.x) c.args.seat.now.me.0.view (fence_stores m f n c.args.a c.args.x) c.requires.view
