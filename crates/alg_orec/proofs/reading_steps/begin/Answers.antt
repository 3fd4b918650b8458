use Rattle.rule_orec.specs.OrecSteps.{orec_begin, CanOrecBegin}
use Rattle.alg_orec.specs.RecordFindings.{FindsStart}
use Rattle.stm_rule.specs.Kept.{good_of}
use Rattle.stm_rule.specs.Product.{Invariant}
use Rattle.alg_orec.proofs.RecordFindingLaws.{begins_beside}
use Rattle.stm_rule.proofs.KindLaws.Allowing.{law_of}
use Rattle.alg_orec.proofs.reading_steps.begin.Goals as goal

pub load_as-requires-clause-law : goal.load_as-requires-clause-law
load_as-requires-clause-law g c =
    let f = c.args.stm.now.config in
    let m = good_of g.K.MemRule.good f c.args.stm.now.rule in
    let n = c.args.caller in
    law_of (Invariant m f) orec_begin (FindsStart m f) n CanOrecBegin c.args.seat.now.me.0.view (begins_beside m f n) c.requires.view
