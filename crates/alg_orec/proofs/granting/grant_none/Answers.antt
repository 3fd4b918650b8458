use Rattle.std.proofs.Common.{rules}
use Rattle.rule_orec.specs.OrecSteps.{orec_grant_all}
use Rattle.stm_rule.specs.Kept.{good_of}
use Rattle.stm_rule.proofs.StandLemmas.{tells-of}
use Rattle.alg_orec.specs.RecordFindings.{FindsAll}
use Rattle.alg_orec.proofs.PromotingLaws as laws
use Rattle.alg_orec.proofs.granting.grant_none.Goals as goal

pub grant_all-time-requires-clause-view : goal.grant_all-time-requires-clause-view
grant_all-time-requires-clause-view g c =
    laws.may-grant_all (g.K.MemRule.good c.args.stm.now.rule) _ _ c.requires.caller _ _ c.requires.attempt c.requires.none

pub returns-then-time-ge-CLOCK_LIMIT-clause-promotes : goal.returns-then-time-ge-CLOCK_LIMIT-clause-promotes
returns-then-time-ge-CLOCK_LIMIT-clause-promotes g c =
    let rule = good_of g.K.MemRule.good c.args.stm.now.config c.args.stm.now.rule in
    let t = tells-of orec_grant_all (FindsAll rule c.args.stm.now.config) _ _ _ c.grant_all-time.ensures.step in
    laws.full-all (g.K.MemRule.good c.args.stm.now.rule) _ _ c.requires.caller _ _ c.requires.attempt _ _ (search rules) t

pub returns-clause-promotes : goal.returns-clause-promotes
returns-clause-promotes g c =
    let rule = good_of g.K.MemRule.good c.args.stm.now.config c.args.stm.now.rule in
    let t = tells-of orec_grant_all (FindsAll rule c.args.stm.now.config) _ _ _ c.grant_all-time.ensures.step in
    laws.granted-all (g.K.MemRule.good c.args.stm.now.rule) _ _ c.requires.caller _ _ c.requires.attempt _ _ (search rules) t
