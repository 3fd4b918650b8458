use Rattle.rule_base.specs.GateSteps.{seize, CanSeize}
use Rattle.rule_base.specs.Encodings.{gate_word}
use Rattle.stm_rule.specs.Findings.{FindsTaken}
use Rattle.stm_rule.specs.Kept.{good_of}
use Rattle.stm_rule.proofs.KindLaws.Lifted.{seizes}
use Rattle.stm_rule.specs.Product.{Invariant}
use Rattle.stm_rule.proofs.KindLaws.Allowing.{law_of}
use Rattle.stm_rule.proofs.stm.Stm.seize.Goals as goal

pub exchange_as-requires-clause-law : goal.exchange_as-requires-clause-law
exchange_as-requires-clause-law g c =
    let f = c.args.self.now.config in
    let m = good_of g.K.MemRule.good f c.args.self.now.rule in
    let n = c.args.caller in
    law_of (Invariant m f) (seize n c.args.fence c.args.alg) (FindsTaken f n (gate_word c.args.fence 0 c.args.alg)) n (CanSeize c.args.fence c.args.alg) c.args.seat.now.me.0.view (seizes m f n c.args.fence c.args.alg) c.requires.view
