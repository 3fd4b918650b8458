use Rattle.rule_base.specs.FenceSteps.{fence_load, CanFenceLoad, FenceLoads}
use Rattle.stm_rule.specs.Kept.{good_of}
use Rattle.stm_rule.proofs.KindLaws.FencingLaws.{fence_loads}
use Rattle.stm_rule.specs.Product.{Invariant}
use Rattle.stm_rule.proofs.KindLaws.Allowing.{law_of}
use Rattle.stm_rule.proofs.stm.Stm.fence_load.Goals as goal

pub load_as-requires-clause-law : goal.load_as-requires-clause-law
load_as-requires-clause-law g c =
    let f = c.args.self.now.config in
    let m = good_of g.K.MemRule.good f c.args.self.now.rule in
    let n = c.args.caller in
    law_of (Invariant m f) (fence_load c.args.a) (FenceLoads c.args.a) n (CanFenceLoad c.args.a) c.args.seat.now.me.0.view (fence_loads m f n c.args.a) c.requires.view
