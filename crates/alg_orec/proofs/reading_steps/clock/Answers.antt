use Rattle.rule_orec.specs.OrecSteps.{orec_clock, CanOrecClock}
use Rattle.alg_orec.specs.RecordFindings.{FindsClock}
use Rattle.rule_base.specs.Ranks.{home_of}
use Rattle.alg_orec.specs.Vouching.{to_validate}
use Rattle.alg_orec.specs.Vouching.{can-validate}
use Rattle.stm_rule.specs.Kept.{good_of}
use Rattle.stm_rule.specs.Product.{Invariant}
use Rattle.alg_orec.proofs.RecordFindingLaws.{clocks_beside}
use Rattle.stm_rule.proofs.KindLaws.Allowing.{law_of}
use Rattle.alg_orec.proofs.reading_steps.clock.Goals as goal

pub load_as-requires-clause-law : goal.load_as-requires-clause-law
load_as-requires-clause-law g c =
    let f = c.args.stm.now.config in
    let m = good_of g.K.MemRule.good f c.args.stm.now.rule in
    let n = c.args.caller in
    let v = c.args.seat.now.me.0.view in
    law_of (Invariant m f) (orec_clock (to_validate (home_of f) v)) (FindsClock f) n (CanOrecClock (home_of f) (to_validate (home_of f) v)) v (clocks_beside m f n (to_validate (home_of f) v)) (can-validate (home_of f) v c.requires.view)
