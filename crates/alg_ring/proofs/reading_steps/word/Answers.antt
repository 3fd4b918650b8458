use Rattle.rule_ring.specs.RingSteps.{ring_word, CanRingWord}
use Rattle.rule_base.specs.StepKinds.{Nothing}
use Rattle.stm_rule.proofs.KindLaws.Lifted.{ring_words}
use Rattle.std.proofs.Common.{arith}
use Rattle.rule_ring.specs.Slots.{slot_place, slot_place-inside}
use Rattle.stm_rule.specs.Kept.{good_of}
use Rattle.stm_rule.specs.Product.{Invariant}
use Rattle.stm_rule.proofs.KindLaws.Allowing.{law_of}
use Rattle.alg_ring.proofs.reading_steps.word.Goals as goal

pub load_at-requires-clause-law : goal.load_at-requires-clause-law
load_at-requires-clause-law g c =
    let f = c.args.stm.now.config in
    let m = good_of g.K.MemRule.good f c.args.stm.now.rule in
    let n = c.args.caller in
    law_of (Invariant m f) (ring_word f.ring c.args.time c.args.index) Nothing n (CanRingWord f.ring c.args.time c.args.index) c.args.seat.now.me.0.view (ring_words m f n c.args.time c.args.index) c.requires.view

pub load_at-requires-clause-place : goal.load_at-requires-clause-place
unfolding slot_place
load_at-requires-clause-place g c =
    let f = c.args.stm.now.config in
    let most = c.args.stm.now.ranges.ring.0 in
    let at = c.requires.first in
    (omega arith, slot_place-inside f.ring c.args.time c.args.index (omega arith) c.requires.view.index)

pub overflow_add-first : goal.overflow_add-first
unfolding slot_place
overflow_add-first g c =
    let f = c.args.stm.now.config in
    let r = c.args.stm.now.ranges in
    let at = c.requires.first in
    let most = r.ring.0 in
    let in_ring = slot_place-inside f.ring c.args.time c.args.index (omega arith) c.requires.view.index in
    omega arith
