use Rattle.rule_promoted.specs.PromotedSteps.{direct_commit, CanDirectCommit}
use Rattle.rule_seq.specs.CglSteps.{Commits}
use Rattle.stm_rule.specs.Kept.{good_of}
use Rattle.stm_rule.proofs.KindLaws.Lifted.{direct_commits}
use Rattle.stm_rule.specs.Product.{Invariant}
use Rattle.stm_rule.proofs.KindLaws.Allowing.{law_of}
use Rattle.stm_rule.proofs.stm.Stm.direct_commit.Goals as goal

pub store_as-requires-clause-law : goal.store_as-requires-clause-law
store_as-requires-clause-law g c =
    let f = c.args.self.now.config in
    let m = good_of g.K.MemRule.good f c.args.self.now.rule in
    let n = c.args.caller in
    law_of (Invariant m f) (direct_commit n c.args.alg c.args.time) (Commits m f n c.args.time) n (CanDirectCommit m c.args.alg c.args.time) c.args.seat.now.me.0.view (direct_commits m f n c.args.alg c.args.time c.requires.caller) c.requires.view
