use Rattle.rule_promoted.specs.PromotedSteps.{ring_move_grant, CanRingMoveGrant}
use Rattle.alg_ring.specs.RingFindings.{FindsLevel}
use Rattle.alg_ring.proofs.RingFindingLaws.{move_grants_beside}
use Rattle.rule_ring.specs.SlotFilter.{slot_filter}
use Rattle.stm_rule.specs.Kept.{good_of}
use Rattle.stm_rule.specs.Product.{Invariant}
use Rattle.stm_rule.proofs.KindLaws.Allowing.{law_of}
use Rattle.alg_ring.proofs.promoting_steps.advance_grant.Goals as goal

pub load_as-requires-clause-law : goal.load_as-requires-clause-law
load_as-requires-clause-law g c =
    let f = c.args.stm.now.config in
    let m = good_of g.K.MemRule.good f c.args.stm.now.rule in
    let n = c.args.caller in
    law_of (Invariant m f) ring_move_grant (FindsLevel m f) n (CanRingMoveGrant slot_filter) c.args.seat.now.me.0.view (move_grants_beside m f n) c.requires.view
