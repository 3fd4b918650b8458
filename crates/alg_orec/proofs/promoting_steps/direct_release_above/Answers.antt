use Rattle.rule_promoted.specs.RaisingSteps.{direct_up, CanDirectUp}
use Rattle.rule_base.specs.StepKinds.{Nothing}
use Rattle.stm_rule.specs.Kept.{good_of}
use Rattle.stm_rule.specs.Product.{Invariant}
use Rattle.stm_rule.proofs.KindLaws.Lifted.{direct_ups}
use Rattle.stm_rule.proofs.KindLaws.Allowing.{law_of}
use Rattle.alg_orec.proofs.promoting_steps.direct_release_above.Goals as goal

pub store_as-requires-clause-law : goal.store_as-requires-clause-law
store_as-requires-clause-law g c =
    let f = c.args.stm.now.config in
    let m = good_of g.K.MemRule.good f c.args.stm.now.rule in
    let n = c.args.caller in
    law_of (Invariant m f) (direct_up c.args.r c.args.version) Nothing n (CanDirectUp c.args.r c.args.version) c.args.seat.now.me.0.view (direct_ups m f n c.args.r c.args.version) c.requires.view
