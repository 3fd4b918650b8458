use Rattle.rule_ring.specs.RingSteps.{ring_load, CanRingLoad}
use Rattle.rule_base.specs.StepKinds.{Nothing}
use Rattle.stm_rule.proofs.KindLaws.Lifted.{ring_loads}
use Rattle.stm_rule.specs.Kept.{good_of}
use Rattle.stm_rule.specs.Kinds.Lifting.{IsSpared}
use Rattle.stm_rule.specs.Product.{Invariant}
use Rattle.stm_rule.proofs.KindLaws.Allowing.{law_of}
use Rattle.alg_ring.proofs.reading_steps.load.Goals as goal

pub load_as-requires-clause-law : goal.load_as-requires-clause-law
load_as-requires-clause-law g c =
    let f = c.args.stm.now.config in
    let m = good_of g.K.MemRule.good f c.args.stm.now.rule in
    let n = c.args.caller in
    law_of (Invariant m f) (ring_load c.args.a) Nothing n (λ v. CanRingLoad f.words c.args.a v × IsSpared c.args.a v) c.args.seat.now.me.0.view (ring_loads m f n c.args.a) (c.requires.view, c.requires.spared)
