use Rattle.rule_promoted.specs.PromotedSteps.{ring_look_grant, CanRingGrant}
use Rattle.alg_ring.specs.RingFindings.{FindsLook}
use Rattle.alg_ring.proofs.RingFindingLaws.{look_grants_beside}
use Rattle.stm_rule.specs.Kept.{good_of}
use Rattle.stm_rule.specs.Product.{Invariant}
use Rattle.stm_rule.proofs.KindLaws.Allowing.{law_of}
use Rattle.alg_ring.proofs.promoting_steps.look_grant.Goals as goal

pub load_as-requires-clause-law : goal.load_as-requires-clause-law
load_as-requires-clause-law g c =
    let f = c.args.stm.now.config in
    let m = good_of g.K.MemRule.good f c.args.stm.now.rule in
    let n = c.args.caller in
    law_of (Invariant m f) ring_look_grant (FindsLook m f) n CanRingGrant c.args.seat.now.me.0.view (look_grants_beside m f n) c.requires.view
