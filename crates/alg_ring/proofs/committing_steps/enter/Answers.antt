use Rattle.rule_ring.specs.RingSteps.{ring_enter, RingEnters, CanRingEnter}
use Rattle.stm_rule.proofs.KindLaws.Lifted.{ring_enters}
use Rattle.stm_rule.specs.Kept.{good_of}
use Rattle.stm_rule.specs.Kinds.Lifting.{AreSpared}
use Rattle.stm_rule.specs.Product.{Invariant}
use Rattle.stm_rule.proofs.KindLaws.Allowing.{law_of}
use Rattle.alg_ring.proofs.committing_steps.enter.Goals as goal

pub store_as-requires-clause-law : goal.store_as-requires-clause-law
store_as-requires-clause-law g c =
    let f = c.args.stm.now.config in
    let m = good_of g.K.MemRule.good f c.args.stm.now.rule in
    let n = c.args.caller in
    law_of (Invariant m f) (ring_enter n c.args.time) (RingEnters m f n c.args.time) n
    (λ v. CanRingEnter m f.words c.args.time v × AreSpared v.ring_commit.writes v) c.args.seat.now.me.0.view
    (ring_enters m f n c.args.time c.requires.caller) (c.requires.view, c.requires.spared)
