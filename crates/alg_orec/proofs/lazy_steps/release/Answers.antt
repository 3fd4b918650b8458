use Rattle.rule_orec.specs.OrecSteps.{orec_release, CanOrecTime}
use Rattle.rule_base.specs.StepKinds.{Nothing}
use Rattle.rule_base.specs.Ranks.{home_of}
use Rattle.stm_rule.specs.Kept.{good_of}
use Rattle.stm_rule.specs.Product.{Invariant}
use Rattle.stm_rule.proofs.KindLaws.Lifted.{orec_times}
use Rattle.stm_rule.proofs.KindLaws.Allowing.{law_of}
use Rattle.alg_orec.proofs.lazy_steps.release.Goals as goal

pub store_as-requires-clause-law : goal.store_as-requires-clause-law
store_as-requires-clause-law g c =
    let f = c.args.stm.now.config in
    let m = good_of g.K.MemRule.good f c.args.stm.now.rule in
    let n = c.args.caller in
    law_of (Invariant m f) (orec_release c.args.r c.args.time) Nothing n (CanOrecTime (home_of f) c.args.r c.args.time) c.args.seat.now.me.0.view (orec_times m f n c.args.r c.args.time) c.requires.view
