use Rattle.rule_seq.specs.TmlSteps.{tml_write, CanTmlWrite}
use Rattle.stm_rule.specs.Kept.{good_of}
use Rattle.stm_rule.proofs.KindLaws.Lifted.{writes_beside}
use Rattle.stm_rule.specs.Findings.{FindsSole}
use Rattle.stm_rule.specs.Product.{Invariant}
use Rattle.stm_rule.proofs.KindLaws.Allowing.{law_of}
use Rattle.stm_rule.proofs.stm.Stm.tml_write.Goals as goal

pub exchange_as-requires-clause-law : goal.exchange_as-requires-clause-law
exchange_as-requires-clause-law g c =
    let f = c.args.self.now.config in
    let m = good_of g.K.MemRule.good f c.args.self.now.rule in
    let n = c.args.caller in
    law_of (Invariant m f) (tml_write c.args.start) (FindsSole f) n (CanTmlWrite c.args.start) c.args.seat.now.me.0.view (writes_beside m f n c.args.start c.requires.caller) c.requires.view
