use Rattle.rule_orec.specs.OrecSteps.{orec_pass, CanOrecPass}
use Rattle.alg_orec.specs.RecordFindings.{FindsRead}
use Rattle.rule_base.specs.Ranks.{home_of}
use Rattle.stm_rule.specs.Kept.{good_of}
use Rattle.stm_rule.specs.Product.{Invariant}
use Rattle.alg_orec.proofs.RecordFindingLaws.{passes_beside}
use Rattle.stm_rule.proofs.KindLaws.Allowing.{law_of}
use Rattle.alg_orec.proofs.reading_steps.pass.Goals as goal

pub load_as-requires-clause-law : goal.load_as-requires-clause-law
load_as-requires-clause-law g c =
    let f = c.args.stm.now.config in
    let m = good_of g.K.MemRule.good f c.args.stm.now.rule in
    let n = c.args.caller in
    law_of (Invariant m f) (orec_pass c.args.r c.args.b) (FindsRead f n c.args.r) n (CanOrecPass (home_of f) c.args.r c.args.b) c.args.seat.now.me.0.view (passes_beside m f n c.args.r c.args.b) c.requires.view
