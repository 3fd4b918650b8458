use Rattle.rule_base.specs.FenceSteps.{fence_commit, CanFenceCommit, FenceCommits}
use Rattle.stm_rule.specs.Kept.{good_of}
use Rattle.stm_rule.proofs.KindLaws.GivingLaws.{fence_commits}
use Rattle.stm_rule.specs.Product.{Invariant}
use Rattle.stm_rule.proofs.KindLaws.Allowing.{law_of}
use Rattle.stm_rule.proofs.stm.Stm.fence_commit.Goals as goal

pub store_own_as-requires-clause-law : goal.store_own_as-requires-clause-law
store_own_as-requires-clause-law g c =
    let f = c.args.self.now.config in
    let m = good_of g.K.MemRule.good f c.args.self.now.rule in
    let n = c.args.caller in
    law_of (Invariant m f) (fence_commit n c.args.alg c.args.time) (FenceCommits m f n c.args.time) n (CanFenceCommit m c.args.alg c.args.time) c.args.seat.now.me.0.view (fence_commits m f n c.args.alg c.args.time) c.requires.view
