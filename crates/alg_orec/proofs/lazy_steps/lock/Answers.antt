use Rattle.rule_orec.specs.OrecSteps.{orec_lock, CanOrecLock}
use Rattle.alg_orec.specs.RecordFindings.{FindsRecord}
use Rattle.stm_rule.specs.Kept.{good_of}
use Rattle.stm_rule.specs.Product.{Invariant}
use Rattle.alg_orec.proofs.RecordFindingLaws.{locks_beside}
use Rattle.stm_rule.proofs.KindLaws.Allowing.{law_of}
use Rattle.alg_orec.proofs.lazy_steps.lock.Goals as goal

pub exchange_as-requires-clause-law : goal.exchange_as-requires-clause-law
exchange_as-requires-clause-law g c =
    let f = c.args.stm.now.config in
    let m = good_of g.K.MemRule.good f c.args.stm.now.rule in
    let n = c.args.caller in
    law_of (Invariant m f) (orec_lock n c.args.r c.args.version) (FindsRecord f n c.args.r) n (CanOrecLock c.args.version) c.args.seat.now.me.0.view (locks_beside m f n c.args.r c.args.version) c.requires.view
