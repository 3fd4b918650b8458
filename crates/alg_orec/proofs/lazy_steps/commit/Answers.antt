use Rattle.rule_orec.specs.OrecSteps.{orec_commit, CanOrecCommit}
use Rattle.alg_orec.specs.RecordFindings.{FindsCommit}
use Rattle.rule_base.specs.Ranks.{home_of}
use Rattle.stm_rule.specs.RecordsKept.{cells_of}
use Rattle.stm_rule.specs.Kept.{good_of}
use Rattle.stm_rule.specs.Kinds.Lifting.{AreSpared}
use Rattle.stm_rule.specs.Product.{Invariant}
use Rattle.alg_orec.proofs.RecordFindingLaws.{commits_beside}
use Rattle.stm_rule.proofs.KindLaws.Allowing.{law_of}
use Rattle.alg_orec.proofs.lazy_steps.commit.Goals as goal

pub exchange_as-requires-clause-law : goal.exchange_as-requires-clause-law
exchange_as-requires-clause-law g c =
    let f = c.args.stm.now.config in
    let m = good_of g.K.MemRule.good f c.args.stm.now.rule in
    let n = c.args.caller in
    law_of (Invariant m f) (orec_commit n c.args.start (cells_of c.args.writes.now.items) (cells_of c.args.writes.now.items))
    (FindsCommit m f n c.args.start (cells_of c.args.writes.now.items)) n
    (λ v.
    CanOrecCommit (home_of f) m f.words c.args.start (cells_of c.args.writes.now.items) (cells_of c.args.writes.now.items) v
    × AreSpared (cells_of c.args.writes.now.items) v) c.args.seat.now.me.0.view
    (commits_beside m f n c.args.start (cells_of c.args.writes.now.items) (cells_of c.args.writes.now.items) c.requires.caller)
    (c.requires.view, c.requires.spared)
