use Rattle.rule_seq.specs.TmlSteps.{tml_begin, CanTmlBegin}
use Rattle.stm_rule.specs.Kept.{good_of}
use Rattle.stm_rule.proofs.KindLaws.Lifted.{begins_beside}
use Rattle.stm_rule.specs.Findings.{FindsBegin}
use Rattle.stm_rule.specs.Product.{Invariant}
use Rattle.stm_rule.proofs.KindLaws.Allowing.{law_of}
use Rattle.stm_rule.proofs.stm.Stm.tml_begin.Goals as goal

pub load_as-requires-clause-law : goal.load_as-requires-clause-law
load_as-requires-clause-law g c =
    let f = c.args.self.now.config in
    let m = good_of g.K.MemRule.good f c.args.self.now.rule in
    let n = c.args.caller in
    law_of (Invariant m f) tml_begin (FindsBegin m f) n CanTmlBegin c.args.seat.now.me.0.view (begins_beside m f n) c.requires.view
