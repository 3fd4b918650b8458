use Rattle.rule_ring.specs.RingSteps.{ring_lock, CanRingLock}
use Rattle.stm_rule.specs.Findings.{FindsLock}
use Rattle.stm_rule.proofs.KindLaws.Lifted.{ring_locks}
use Rattle.stm_rule.specs.Kept.{good_of}
use Rattle.stm_rule.specs.Product.{Invariant}
use Rattle.stm_rule.proofs.KindLaws.Allowing.{law_of}
use Rattle.alg_ring.proofs.committing_steps.lock.Goals as goal

pub exchange_as-requires-clause-law : goal.exchange_as-requires-clause-law
exchange_as-requires-clause-law g c =
    let f = c.args.stm.now.config in
    let m = good_of g.K.MemRule.good f c.args.stm.now.rule in
    let n = c.args.caller in
    law_of (Invariant m f) (ring_lock n) (FindsLock f n) n CanRingLock c.args.seat.now.me.0.view (ring_locks m f n) c.requires.view
