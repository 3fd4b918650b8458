use Rattle.rule_seq.specs.TmlSteps.{tml_commit, CanTmlCommit}
use Rattle.rule_seq.specs.CglSteps.{Commits}
use Rattle.stm_rule.specs.Kept.{good_of}
use Rattle.stm_rule.proofs.KindLaws.Lifted.{tml_commits}
use Rattle.stm_rule.specs.Product.{Invariant}
use Rattle.stm_rule.proofs.KindLaws.Allowing.{law_of}
use Rattle.stm_rule.proofs.stm.Stm.tml_commit.Goals as goal

pub store_as-requires-clause-law : goal.store_as-requires-clause-law
store_as-requires-clause-law g c =
    let f = c.args.self.now.config in
    let m = good_of g.K.MemRule.good f c.args.self.now.rule in
    let n = c.args.caller in
    law_of (Invariant m f) (tml_commit n c.args.time) (Commits m f n c.args.time) n (CanTmlCommit m c.args.time) c.args.seat.now.me.0.view (tml_commits m f n c.args.time c.requires.caller) c.requires.view
