use Rattle.rule_base.specs.FenceSteps.{unfence, CanUnfence}
use Rattle.rule_base.specs.StepKinds.{Nothing}
use Rattle.stm_rule.specs.Kept.{good_of}
use Rattle.stm_rule.proofs.KindLaws.GivingLaws.{unfences}
use Rattle.stm_rule.specs.Product.{Invariant}
use Rattle.stm_rule.proofs.KindLaws.Allowing.{law_of}
use Rattle.stm_rule.proofs.stm.Stm.unfence.Goals as goal

pub store_own_as-requires-clause-law : goal.store_own_as-requires-clause-law
store_own_as-requires-clause-law g c =
    let f = c.args.self.now.config in
    let m = good_of g.K.MemRule.good f c.args.self.now.rule in
    let n = c.args.caller in
    law_of (Invariant m f) (unfence n c.args.alg) Nothing n (CanUnfence f.callers n c.args.alg) c.args.seat.now.me.0.view (unfences m f n c.args.alg) c.requires.view
