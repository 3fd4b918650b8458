use Rattle.rule_base.specs.FenceSteps.{fence, CanFence}
use Rattle.rule_base.specs.Encodings.{fence_number}
use Rattle.stm_rule.specs.FenceFindings.{FindsPast}
use Rattle.stm_rule.specs.Kept.{good_of}
use Rattle.stm_rule.proofs.KindLaws.FencingLaws.{fences}
use Rattle.stm_rule.specs.Product.{Invariant}
use Rattle.stm_rule.proofs.KindLaws.Allowing.{law_of}
use Rattle.stm_rule.proofs.stm.Stm.fence.Goals as goal

pub store_own_as-requires-clause-law : goal.store_own_as-requires-clause-law
store_own_as-requires-clause-law g c =
    let f = c.args.self.now.config in
    let m = good_of g.K.MemRule.good f c.args.self.now.rule in
    let n = c.args.caller in
    law_of (Invariant m f) (fence n (fence_number n c.args.from c.args.count) c.args.alg) (FindsPast m f) n
    (CanFence f n c.args.from c.args.count c.args.alg) c.args.seat.now.me.0.view (fences m f n c.args.from c.args.count c.args.alg)
    c.requires.view
