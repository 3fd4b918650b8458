use Rattle.rule_orec.specs.OrecSteps.{orec_commit, CanOrecCommit}
use Rattle.alg_orec.specs.RecordFindings.{FindsCommit}
use Rattle.rule_base.specs.Ranks.{home_of}
use Rattle.std.specs.Prelude.{[], ◌≡◌}
use Rattle.std.proofs.Common.{refl}
use Rattle.stm_rule.specs.Kept.{good_of}
use Rattle.stm_rule.specs.Product.{Invariant}
use Rattle.alg_orec.proofs.RecordFindingLaws.{commits_placed}
use Rattle.stm_rule.proofs.KindLaws.Allowing.{law_of}
use Rattle.alg_orec.proofs.eager_steps.commit_placed.Goals as goal

pub exchange_as-requires-clause-law : goal.exchange_as-requires-clause-law
exchange_as-requires-clause-law g c =
    let f = c.args.stm.now.config in
    let m = good_of g.K.MemRule.good f c.args.stm.now.rule in
    let n = c.args.caller in
    let v = c.args.seat.now.me.0.view in
    law_of (Invariant m f) (orec_commit n c.args.start v.owned.in_place []) (FindsCommit m f n c.args.start v.owned.in_place) n
    (λ u. CanOrecCommit (home_of f) m f.words c.args.start v.owned.in_place [] u × (u.owned.in_place ≡ v.owned.in_place)) v
    (commits_placed m f n c.args.start v.owned.in_place c.requires.caller) (c.requires.view, refl)
