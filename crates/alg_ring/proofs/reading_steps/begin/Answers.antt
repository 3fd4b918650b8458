use Rattle.rule_ring.specs.RingSteps.{ring_begin, CanRingBegin}
use Rattle.alg_ring.specs.RingFindings.{FindsStart}
use Rattle.alg_ring.proofs.RingFindingLaws.{begins_beside}
use Rattle.stm_rule.specs.Kept.{good_of}
use Rattle.stm_rule.specs.Product.{Invariant}
use Rattle.stm_rule.proofs.KindLaws.Allowing.{law_of}
use Rattle.alg_ring.proofs.reading_steps.begin.Goals as goal

pub load_as-requires-clause-law : goal.load_as-requires-clause-law
load_as-requires-clause-law g c =
    let f = c.args.stm.now.config in
    let m = good_of g.K.MemRule.good f c.args.stm.now.rule in
    let n = c.args.caller in
    law_of (Invariant m f) ring_begin (FindsStart m f) n CanRingBegin c.args.seat.now.me.0.view (begins_beside m f n) c.requires.view
