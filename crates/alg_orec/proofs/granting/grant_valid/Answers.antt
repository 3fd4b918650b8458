use Rattle.std.proofs.Common.{ℕ, ap, rules, subst, sym}
use Rattle.std.specs.Prelude.{◌%◌}
use Rattle.stm_model.specs.declared.stop.Cause.TheVariants as causes
use Rattle.rule_base.specs.InstallSteps.{settle}
use Rattle.rule_base.specs.Ranks.{home_of}
use Rattle.rule_orec.specs.OrecSteps.{orec_clock, orec_grant}
use Rattle.stm_rule.specs.Findings.{FindsWithin}
use Rattle.stm_rule.specs.Kept.{good_of}
use Rattle.stm_rule.proofs.StandLemmas.{tells-of}
use Rattle.alg_orec.specs.RecordFindings.{FindsClock, FindsGrant}
use Rattle.alg_orec.specs.Vouching.{to_validate}
use Rattle.stm_answers.specs.declared.answers.Irrev.TheVariants as irrevs
use Rattle.alg_orec.specs.Granting.{IsNotPromoted}
use Rattle.alg_orec.proofs.PromotingLaws as laws
use Rattle.alg_orec.proofs.Validity as validity
use Rattle.alg_orec.proofs.granting.grant_valid.Goals as goal

pub settle-time-requires-clause-view : goal.settle-time-requires-clause-view
settle-time-requires-clause-view g c =
    laws.may-settle (g.K.MemRule.good c.args.stm.now.rule) _ _ c.requires.caller _ _ c.requires.attempt

pub returns-then-time-ge-CLOCK_LIMIT-clause-promotes : goal.returns-then-time-ge-CLOCK_LIMIT-clause-promotes
returns-then-time-ge-CLOCK_LIMIT-clause-promotes g c =
    let first = tells-of settle FindsWithin _ _ _ c.settle-time.ensures.step in
    laws.full-settled (g.K.MemRule.good c.args.stm.now.rule) _ _ c.requires.caller _ _ c.requires.attempt _ _ first (search rules)

pub clock-requires-clause-view : goal.clock-requires-clause-view
clock-requires-clause-view g c =
    let first = tells-of settle FindsWithin _ _ _ c.settle-time.ensures.step in
    (laws.may-validate (g.K.MemRule.good c.args.stm.now.rule) _ _ c.requires.caller _ _ c.requires.attempt _ _ first).opens

pub pass_before-requires-clause-view : goal.pass_before-requires-clause-view
pass_before-requires-clause-view g c =
    let f = c.args.stm.now.config in
    let first = tells-of settle FindsWithin _ _ _ c.settle-time.ensures.step in
    let second = tells-of (orec_clock (to_validate (home_of f) c.settle-time.new.seat.me.0.view)) (FindsClock f) _ _ _ c.clock.ensures.step in
    let may = laws.may-validate (g.K.MemRule.good c.args.stm.now.rule) _ _ c.requires.caller _ _ c.requires.attempt _ _ first in
    validity.may-start (good_of g.K.MemRule.good f c.args.stm.now.rule) _ _ c.requires.caller _ _ may _ _ c.requires.last _ second

pub returns-in-Err-clause-promotes : goal.returns-in-Err-clause-promotes
returns-in-Err-clause-promotes g c =
    let f = c.args.stm.now.config in
    let first = tells-of settle FindsWithin _ _ _ c.settle-time.ensures.step in
    let second = tells-of (orec_clock (to_validate (home_of f) c.settle-time.new.seat.me.0.view)) (FindsClock f) _ _ _ c.clock.ensures.step in
    let may = laws.may-validate (g.K.MemRule.good c.args.stm.now.rule) _ _ c.requires.caller _ _ c.requires.attempt _ _ first in
    laws.refused-reads (g.K.MemRule.good c.args.stm.now.rule) _ _ c.requires.caller _ _ c.requires.attempt _ _ first _ _
    (validity.refused-before (good_of g.K.MemRule.good f c.args.stm.now.rule) _ _ c.requires.caller _ _ may _ _ c.requires.last _ second _ _ c.in-Err.ensures.passes)

pub grant-word-requires-clause-view : goal.grant-word-requires-clause-view
grant-word-requires-clause-view g c =
    let f = c.args.stm.now.config in
    let first = tells-of settle FindsWithin _ _ _ c.settle-time.ensures.step in
    let second = tells-of (orec_clock (to_validate (home_of f) c.settle-time.new.seat.me.0.view)) (FindsClock f) _ _ _ c.clock.ensures.step in
    laws.may-grant (g.K.MemRule.good c.args.stm.now.rule) _ _ c.requires.caller _ _ c.requires.attempt _ _ first _ _ c.requires.last _ second _ c.in_default.ensures.passes
    c.item-b.result.0 (ap (λ (w : ℕ × ℕ). w.0) c.item-b.ensures)

pub returns-in-Err-judge-clause-promotes : goal.returns-in-Err-judge-clause-promotes
returns-in-Err-judge-clause-promotes g c =
    let f = c.args.stm.now.config in
    let r = c.item-b.result.0 % f.records in
    let first = tells-of settle FindsWithin _ _ _ c.settle-time.ensures.step in
    let second = tells-of (orec_clock (to_validate (home_of f) c.settle-time.new.seat.me.0.view)) (FindsClock f) _ _ _ c.clock.ensures.step in
    let t = tells-of (orec_grant r c.item-b.result.0) (FindsGrant (good_of g.K.MemRule.good f c.args.stm.now.rule) f c.args.caller r) _ _ _ c.grant-word.ensures.step in
    subst (λ (y : causes.the_data). IsNotPromoted f c.args.caller (irrevs.Conflict y) c.args.local.now c.args.seat.now.me.0.view c.args.local.now c.grant-word.new.seat.me.0.view) (sym c.in-Err-judge.ensures.0)
    (laws.refused-last (g.K.MemRule.good c.args.stm.now.rule) _ _ c.requires.caller _ _ c.requires.attempt _ _ first _ _ c.requires.last _
    second _ c.in_default.ensures.passes c.item-b.result.0 _ _ t c.in-Err-judge.ensures.1 (ap (λ (w : ℕ × ℕ). w.0) c.item-b.ensures))

pub returns-clause-promotes : goal.returns-clause-promotes
returns-clause-promotes g c =
    let f = c.args.stm.now.config in
    let r = c.item-b.result.0 % f.records in
    let first = tells-of settle FindsWithin _ _ _ c.settle-time.ensures.step in
    let second = tells-of (orec_clock (to_validate (home_of f) c.settle-time.new.seat.me.0.view)) (FindsClock f) _ _ _ c.clock.ensures.step in
    let t = tells-of (orec_grant r c.item-b.result.0) (FindsGrant (good_of g.K.MemRule.good f c.args.stm.now.rule) f c.args.caller r) _ _ _ c.grant-word.ensures.step in
    laws.granted-last (g.K.MemRule.good c.args.stm.now.rule) _ _ c.requires.caller _ _ c.requires.attempt _ _ first _ _ c.requires.last _ second _ c.in_default.ensures.passes c.item-b.result.0 _ _ t
    c.in_default-judge.ensures.0 c.in_default-judge.ensures.1 (search rules)
