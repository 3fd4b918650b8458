use Rattle.rule_base.specs.InstallSteps.{settle}
use Rattle.stm_rule.specs.FenceFindings.{FindsEven, CanSettleBack}
use Rattle.stm_rule.proofs.KindLaws.GivingLaws.{settles_back}
use Rattle.stm_rule.specs.Kept.{good_of}
use Rattle.stm_rule.specs.Product.{Invariant}
use Rattle.stm_rule.proofs.KindLaws.Allowing.{law_of}
use Rattle.stm_rule.proofs.stm.Stm.settle_back.Goals as goal

pub load_as-requires-clause-law : goal.load_as-requires-clause-law
load_as-requires-clause-law g c =
    let f = c.args.self.now.config in
    let m = good_of g.K.MemRule.good f c.args.self.now.rule in
    let n = c.args.caller in
    law_of (Invariant m f) settle (FindsEven c.args.alg) n (CanSettleBack f.callers n c.args.alg) c.args.seat.now.me.0.view (settles_back m f n c.args.alg) c.requires.view
