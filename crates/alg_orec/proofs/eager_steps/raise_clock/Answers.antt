use Rattle.rule_orec.specs.OrecSteps.{orec_raise_clock, CanOrecRaiseClock}
use Rattle.alg_orec.specs.RecordFindings.{FindsClock}
use Rattle.stm_rule.specs.Kept.{good_of}
use Rattle.stm_rule.specs.Product.{Invariant}
use Rattle.alg_orec.proofs.RecordFindingLaws.{raises_clock_beside}
use Rattle.stm_rule.proofs.KindLaws.Allowing.{law_of}
use Rattle.alg_orec.proofs.eager_steps.raise_clock.Goals as goal

pub raise_as-requires-clause-law : goal.raise_as-requires-clause-law
raise_as-requires-clause-law g c =
    let f = c.args.stm.now.config in
    let m = good_of g.K.MemRule.good f c.args.stm.now.rule in
    let n = c.args.caller in
    law_of (Invariant m f) (orec_raise_clock c.args.least) (FindsClock f) n (CanOrecRaiseClock c.args.least) c.args.seat.now.me.0.view (raises_clock_beside m f n c.args.least c.requires.caller) c.requires.view
