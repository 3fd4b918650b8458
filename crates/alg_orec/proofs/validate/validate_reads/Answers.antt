use Rattle.std.proofs.Common.{ℕ, refl, sym, ap, subst}
use Rattle.std.specs.Prelude.{◌%◌}
use Rattle.std.proofs.lemmas.Result.{err_from_is_err_and}
use Rattle.stm_model.specs.declared.stop.Cause.{Cause}
use Rattle.rule_base.specs.Ranks.{home_of}
use Rattle.rule_base.specs.StepKinds.{Tells}
use Rattle.rule_orec.specs.OrecSteps.{orec_clock, orec_clock_all, orec_last}
use Rattle.stm_rule.specs.Kept.{good_of}
use Rattle.stm_rule.proofs.StandLemmas.{tells-of}
use Rattle.alg_orec.specs.RecordFindings.{FindsAll, FindsClock, FindsLast}
use Rattle.alg_orec.specs.Vouching.{to_validate}
use Rattle.alg_orec.proofs.Validity as validity
use Rattle.alg_orec.specs.Validating.{Refuses}
use Rattle.alg_orec.proofs.validate.validate_reads.Goals.{After-clock-now, After-last-word}
use Rattle.alg_orec.proofs.validate.validate_reads.Goals as goal

timed : (g : _) (c : After-clock-now g)
    → Tells (orec_clock (to_validate (home_of c.args.stm.now.config) c.args.seat.now.me.0.view)) (FindsClock c.args.stm.now.config)
    c.args.seat.now.me.0.view c.clock-now.result c.clock-now.new.seat.me.0.view
timed g c = tells-of (orec_clock (to_validate (home_of c.args.stm.now.config) c.args.seat.now.me.0.view)) (FindsClock c.args.stm.now.config) _ _ _ c.clock-now.ensures.step

passed_last : (g : _) (c : After-last-word g)
    → Tells (orec_last (c.item-b.result.0 % c.args.stm.now.config.records) c.item-b.result.0)
    (FindsLast (good_of g.K.MemRule.good c.args.stm.now.config c.args.stm.now.rule) c.args.stm.now.config c.args.caller
    (c.item-b.result.0 % c.args.stm.now.config.records))
    c.pass_before.new.seat.me.0.view c.last-word.result c.last-word.new.seat.me.0.view
passed_last g c =
    let r = c.item-b.result.0 % c.args.stm.now.config.records in
    tells-of (orec_last r c.item-b.result.0) (FindsLast (good_of g.K.MemRule.good c.args.stm.now.config c.args.stm.now.rule) c.args.stm.now.config c.args.caller r) _ _ _ c.last-word.ensures.step

pub clock_all-local-requires-clause-view : goal.clock_all-local-requires-clause-view
clock_all-local-requires-clause-view g c =
    validity.may-all (good_of g.K.MemRule.good c.args.stm.now.config c.args.stm.now.rule) _ c.args.caller c.requires.caller c.args.local.now
    _ c.requires.view c.in_default.ensures.last

pub returns-in_default-clause-validates : goal.returns-in_default-clause-validates
returns-in_default-clause-validates g c =
    let f = c.args.stm.now.config in
    let rule = good_of g.K.MemRule.good f c.args.stm.now.rule in
    validity.valid-all rule f c.args.caller c.requires.caller c.args.local.now _ c.requires.view c.clock_all-local.result _ (tells-of orec_clock_all (FindsAll rule f) _ _ _ c.clock_all-local.ensures.step)

pub returns-in_err-pass_before-clause-validates : goal.returns-in_err-pass_before-clause-validates
returns-in_err-pass_before-clause-validates g c =
    let first = timed g (goal.at.returns-in_err-pass_before-clause-validates g c).After-clock-now in
    let p = err_from_is_err_and c.from_residual.result c.from_residual.ensures.1 in
    rw (p.1, p.2) (
      refl,
      validity.refused-before (good_of g.K.MemRule.good c.args.stm.now.config c.args.stm.now.rule) _ c.args.caller c.requires.caller
          c.args.local.now _ c.requires.view c.in-Some.i c.clock-now.result c.in-Some.ensures.last _ first _ _
          c.in_err-pass_before.ensures.passes,
    )

pub returns-in_err-must_load-clause-validates : goal.returns-in_err-must_load-clause-validates
returns-in_err-must_load-clause-validates g c =
    let first = timed g (goal.at.returns-in_err-must_load-clause-validates g c).After-clock-now in
    let e = c.in_err-must_load.ensures in
    let p = err_from_is_err_and c.from_residual-in_err-must_load.result c.from_residual-in_err-must_load.ensures.1 in
    rw (p.1, p.2) (
      refl,
      subst (λ (k : Cause). Refuses c.args.stm.now.config c.args.caller k c.args.seat.now.me.0.view c.pass_before.new.seat.me.0.view) (sym e.3)
          (validity.refused-mine (good_of g.K.MemRule.good c.args.stm.now.config c.args.stm.now.rule) _ c.args.caller c.requires.caller
          c.args.local.now _ c.requires.view c.in-Some.i c.clock-now.result c.in-Some.ensures.last _ first _
          c.in_ok-pass_before.ensures.passes
          c.item-b.result.0 e.0 (ap (λ (q : ℕ × ℕ). q.0) c.item-b.ensures) e.1 e.2),
    )

pub last-word-requires-clause-view : goal.last-word-requires-clause-view
last-word-requires-clause-view g c =
    let first = timed g (goal.at.last-word-requires-clause-view g c).After-clock-now in
    validity.may-last (good_of g.K.MemRule.good c.args.stm.now.config c.args.stm.now.rule) _ c.args.caller c.requires.caller
    c.args.local.now _ c.requires.view c.in-Some.i c.clock-now.result c.in-Some.ensures.last _ first _ c.in_ok-pass_before.ensures.passes
    c.item-b.result.0 (ap (λ (q : ℕ × ℕ). q.0) c.item-b.ensures)

pub returns-in_err-judge-clause-validates : goal.returns-in_err-judge-clause-validates
returns-in_err-judge-clause-validates g c =
    let place = goal.at.returns-in_err-judge-clause-validates g c in
    let f = c.args.stm.now.config in
    let b = c.item-b.result.0 in
    let at = ap (λ (q : ℕ × ℕ). q.0) c.item-b.ensures in
    let e = c.in_err-judge.ensures in
    let p = err_from_is_err_and c.from_residual-in_err-judge.result c.from_residual-in_err-judge.ensures.1 in
    rw (p.1, p.2) (
      refl,
      subst (λ (k : Cause). Refuses f c.args.caller k c.args.seat.now.me.0.view c.last-word.new.seat.me.0.view) (sym e.0)
          (validity.refused-last (good_of g.K.MemRule.good f c.args.stm.now.rule) f c.args.caller c.requires.caller c.args.local.now _
          c.requires.view c.in-Some.i c.clock-now.result c.in-Some.ensures.last _ (timed g place.After-clock-now) _
          c.in_ok-pass_before.ensures.passes
          b c.last-word.result _ at (validity.must-load f c.args.local.now c.in-Some.i c.in-Some.ensures.last b at c.in_ok-must_load.field-0 c.in_ok-must_load.ensures) e.1 (passed_last g place.After-last-word)),
    )

pub returns-clause-validates : goal.returns-clause-validates
returns-clause-validates g c =
    let place = goal.at.returns-clause-validates g c in
    let e = c.in_ok-judge.ensures in
    validity.valid-last (good_of g.K.MemRule.good c.args.stm.now.config c.args.stm.now.rule) _ c.args.caller c.requires.caller
    c.args.local.now _ c.requires.view c.in-Some.i c.clock-now.result c.in-Some.ensures.last _ (timed g place.After-clock-now) _
    c.in_ok-pass_before.ensures.passes
    c.item-b.result.0 c.last-word.result _ e.0 e.1 (passed_last g place.After-last-word)
