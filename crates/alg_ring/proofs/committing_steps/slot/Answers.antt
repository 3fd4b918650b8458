use Rattle.rule_ring.specs.RingSteps.{ring_slot, CanRingSlot}
use Rattle.rule_base.specs.StepKinds.{Nothing}
use Rattle.stm_rule.proofs.KindLaws.Lifted.{ring_slots}
use Rattle.rule_ring.specs.SlotFilter.{slot_filter}
use Rattle.stm_rule.specs.RecordsKept.{cells_of}
use Rattle.std.proofs.Common.{arith}
use Rattle.rule_ring.specs.Slots.{slot_place, slot_place-inside}
use Rattle.stm_rule.specs.Kept.{good_of}
use Rattle.stm_rule.specs.Product.{Invariant}
use Rattle.stm_rule.proofs.KindLaws.Allowing.{law_of}
use Rattle.alg_ring.proofs.committing_steps.slot.Goals as goal

pub store_at-requires-clause-law : goal.store_at-requires-clause-law
store_at-requires-clause-law g c =
    let f = c.args.stm.now.config in
    let m = good_of g.K.MemRule.good f c.args.stm.now.rule in
    let n = c.args.caller in
    law_of (Invariant m f) (ring_slot slot_filter f.ring c.args.time c.args.index (cells_of c.args.writes.now.items)) Nothing n
    (CanRingSlot c.args.time c.args.index (cells_of c.args.writes.now.items)) c.args.seat.now.me.0.view
    (ring_slots m f n c.args.time c.args.index (cells_of c.args.writes.now.items)) c.requires.view

pub store_at-requires-clause-place : goal.store_at-requires-clause-place
unfolding slot_place
store_at-requires-clause-place g c =
    let f = c.args.stm.now.config in
    let most = c.args.stm.now.ranges.ring.0 in
    let at = c.requires.first in
    (omega arith, slot_place-inside f.ring c.args.time c.args.index (omega arith) c.requires.view.low)

pub overflow_add-first : goal.overflow_add-first
unfolding slot_place
overflow_add-first g c =
    let f = c.args.stm.now.config in
    let r = c.args.stm.now.ranges in
    let at = c.requires.first in
    let most = r.ring.0 in
    let in_ring = slot_place-inside f.ring c.args.time c.args.index (omega arith) c.requires.view.low in
    omega arith
