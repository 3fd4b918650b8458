use Rattle.rule_ring.specs.RingSteps.{ring_write, CanRingWrite}
use Rattle.rule_base.specs.StepKinds.{Nothing}
use Rattle.stm_rule.proofs.KindLaws.Lifted.{ring_writes}
use Rattle.stm_rule.specs.Kept.{good_of}
use Rattle.stm_rule.specs.Product.{Invariant}
use Rattle.stm_rule.proofs.KindLaws.Allowing.{law_of}
use Rattle.alg_ring.proofs.committing_steps.write_back.Goals as goal

pub store_as-requires-clause-law : goal.store_as-requires-clause-law
store_as-requires-clause-law g c =
    let f = c.args.stm.now.config in
    let m = good_of g.K.MemRule.good f c.args.stm.now.rule in
    let n = c.args.caller in
    law_of (Invariant m f) (ring_write c.args.a c.args.x) Nothing n (CanRingWrite c.args.a c.args.x) c.args.seat.now.me.0.view (ring_writes m f n c.args.a c.args.x) c.requires.view
