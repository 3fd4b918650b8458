use Rattle.rule_promoted.specs.RaisingSteps.{direct_raise_clock, CanDirectRaiseClock}
use Rattle.alg_orec.specs.RecordFindings.{FindsStill}
use Rattle.stm_rule.specs.Kept.{good_of}
use Rattle.stm_rule.specs.Product.{Invariant}
use Rattle.alg_orec.proofs.RecordFindingLaws.{direct_raises_clock_beside}
use Rattle.stm_rule.proofs.KindLaws.Allowing.{law_of}
use Rattle.alg_orec.proofs.promoting_steps.direct_raise_clock.Goals as goal

pub raise_as-requires-clause-law : goal.raise_as-requires-clause-law
raise_as-requires-clause-law g c =
    let f = c.args.stm.now.config in
    let m = good_of g.K.MemRule.good f c.args.stm.now.rule in
    let n = c.args.caller in
    law_of (Invariant m f) (direct_raise_clock c.args.least) (FindsStill f) n (CanDirectRaiseClock c.args.least) c.args.seat.now.me.0.view (direct_raises_clock_beside m f n c.args.least c.requires.caller) c.requires.view
