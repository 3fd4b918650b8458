use Rattle.rule_orec.specs.OrecSteps.{orec_limit, HasOrec}
use Rattle.alg_orec.specs.RecordFindings.{FindsClock}
use Rattle.stm_rule.specs.Kept.{good_of}
use Rattle.stm_rule.specs.Product.{Invariant}
use Rattle.alg_orec.proofs.RecordFindingLaws.{limits_beside}
use Rattle.stm_rule.proofs.KindLaws.Allowing.{law_of}
use Rattle.alg_orec.proofs.lazy_steps.limit.Goals as goal

pub load_as-requires-clause-law : goal.load_as-requires-clause-law
load_as-requires-clause-law g c =
    let f = c.args.stm.now.config in
    let m = good_of g.K.MemRule.good f c.args.stm.now.rule in
    let n = c.args.caller in
    law_of (Invariant m f) orec_limit (FindsClock f) n HasOrec c.args.seat.now.me.0.view (limits_beside m f n) c.requires.view
