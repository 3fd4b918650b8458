use Rattle.rule_seq.specs.TmlSteps.{tml_again, CanTmlAgain}
use Rattle.stm_rule.specs.Kept.{good_of}
use Rattle.stm_rule.proofs.KindLaws.Lifted.{agains_beside}
use Rattle.stm_rule.specs.Findings.{FindsAgain}
use Rattle.stm_rule.specs.Product.{Invariant}
use Rattle.stm_rule.proofs.KindLaws.Allowing.{law_of}
use Rattle.stm_rule.proofs.stm.Stm.tml_again.Goals as goal

pub load_as-requires-clause-law : goal.load_as-requires-clause-law
load_as-requires-clause-law g c =
    let f = c.args.self.now.config in
    let m = good_of g.K.MemRule.good f c.args.self.now.rule in
    let n = c.args.caller in
    law_of (Invariant m f) tml_again (FindsAgain m f) n CanTmlAgain c.args.seat.now.me.0.view (agains_beside m f n) c.requires.view
