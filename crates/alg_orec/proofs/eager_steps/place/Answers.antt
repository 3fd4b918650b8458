use Rattle.rule_orec.specs.OrecSteps.{orec_place, CanOrecPlace}
use Rattle.rule_base.specs.StepKinds.{Nothing}
use Rattle.stm_rule.specs.Kept.{good_of}
use Rattle.stm_rule.specs.Product.{Invariant}
use Rattle.stm_rule.proofs.KindLaws.Lifted.{orec_places}
use Rattle.stm_rule.proofs.KindLaws.Allowing.{law_of}
use Rattle.alg_orec.proofs.eager_steps.place.Goals as goal

pub store_as-requires-clause-law : goal.store_as-requires-clause-law
store_as-requires-clause-law g c =
    let f = c.args.stm.now.config in
    let m = good_of g.K.MemRule.good f c.args.stm.now.rule in
    let n = c.args.caller in
    law_of (Invariant m f) (orec_place c.args.a c.args.x) Nothing n (CanOrecPlace c.args.a) c.args.seat.now.me.0.view (orec_places m f n c.args.a c.args.x) c.requires.view
