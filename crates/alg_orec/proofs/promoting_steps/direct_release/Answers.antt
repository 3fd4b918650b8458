use Rattle.rule_promoted.specs.PromotedSteps.{direct_release, CanDirectRelease}
use Rattle.rule_base.specs.StepKinds.{Nothing}
use Rattle.stm_rule.specs.Kept.{good_of}
use Rattle.stm_rule.specs.Product.{Invariant}
use Rattle.stm_rule.proofs.KindLaws.Lifted.{direct_releases}
use Rattle.stm_rule.proofs.KindLaws.Allowing.{law_of}
use Rattle.alg_orec.proofs.promoting_steps.direct_release.Goals as goal

pub store_as-requires-clause-law : goal.store_as-requires-clause-law
store_as-requires-clause-law g c =
    let f = c.args.stm.now.config in
    let m = good_of g.K.MemRule.good f c.args.stm.now.rule in
    let n = c.args.caller in
    law_of (Invariant m f) (direct_release c.args.r c.args.time) Nothing n (CanDirectRelease c.args.r c.args.time) c.args.seat.now.me.0.view (direct_releases m f n c.args.r c.args.time) c.requires.view
