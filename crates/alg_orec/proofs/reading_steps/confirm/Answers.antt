use Rattle.rule_orec.specs.OrecSteps.{orec_confirm, CanOrecConfirm}
use Rattle.alg_orec.specs.RecordFindings.{FindsAgain}
use Rattle.rule_base.specs.Ranks.{home_of}
use Rattle.stm_rule.specs.Kept.{good_of}
use Rattle.stm_rule.specs.Product.{Invariant}
use Rattle.alg_orec.proofs.RecordFindingLaws.{confirms_beside}
use Rattle.stm_rule.proofs.KindLaws.Allowing.{law_of}
use Rattle.alg_orec.proofs.reading_steps.confirm.Goals as goal

pub load_at-requires-clause-law : goal.load_at-requires-clause-law
load_at-requires-clause-law g c =
    let f = c.args.stm.now.config in
    let m = good_of g.K.MemRule.good f c.args.stm.now.rule in
    let n = c.args.caller in
    law_of (Invariant m f) (orec_confirm c.args.r) (FindsAgain m f n c.args.r) n (CanOrecConfirm (home_of f) f.words c.args.r) c.args.seat.now.me.0.view (confirms_beside m f n c.args.r) c.requires.view

pub load_at-requires-clause-place : goal.load_at-requires-clause-place
load_at-requires-clause-place g c = (c.requires.at, c.requires.place)
