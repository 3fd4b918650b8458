use Rattle.rule_orec.specs.OrecSteps.{orec_last, CanOrecLast}
use Rattle.alg_orec.specs.RecordFindings.{FindsLast}
use Rattle.rule_base.specs.Ranks.{home_of}
use Rattle.stm_rule.specs.Kept.{good_of}
use Rattle.stm_rule.specs.Product.{Invariant}
use Rattle.alg_orec.proofs.RecordFindingLaws.{lasts_beside}
use Rattle.stm_rule.proofs.KindLaws.Allowing.{law_of}
use Rattle.alg_orec.proofs.reading_steps.last.Goals as goal

pub load_as-requires-clause-law : goal.load_as-requires-clause-law
load_as-requires-clause-law g c =
    let f = c.args.stm.now.config in
    let m = good_of g.K.MemRule.good f c.args.stm.now.rule in
    let n = c.args.caller in
    law_of (Invariant m f) (orec_last c.args.r c.args.b) (FindsLast m f n c.args.r) n (CanOrecLast (home_of f) c.args.r c.args.b) c.args.seat.now.me.0.view (lasts_beside m f n c.args.r c.args.b) c.requires.view
