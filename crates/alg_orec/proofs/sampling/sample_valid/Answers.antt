use Rattle.std.proofs.Common.{Bool, ◌≡◌, ◌<◌, true, false, sym, subst, ◌∙◌, arith}
use Rattle.std.specs.Prelude.{◌%◌}
use Rattle.std.proofs.lemmas.Result.{err_from_is_err_and}
use Rattle.rule_base.specs.Encodings.{is_owned, version_of}
use Rattle.rule_base.specs.StepKinds.{Tells}
use Rattle.rule_orec.specs.OrecSteps.{orec_sample}
use Rattle.stm_rule.specs.declared.local.Local.{Local}
use Rattle.stm_rule.specs.Kept.{good_of}
use Rattle.stm_rule.proofs.StandLemmas.{tells-of}
use Rattle.alg_orec.specs.RecordFindings.{FindsRecord}
use Rattle.alg_orec.proofs.LoadLaws as laws
use Rattle.alg_orec.specs.Loading.{RefusesRead, TellsSeen}
use Rattle.alg_orec.proofs.sampling.sample_valid.Goals.{After-sample-word}
use Rattle.alg_orec.proofs.sampling.sample_valid.Goals as goal

told : (g : _) (c : After-sample-word g)
    → Tells (orec_sample (c.args.a % c.args.stm.now.config.records) c.args.a)
    (FindsRecord c.args.stm.now.config c.args.caller (c.args.a % c.args.stm.now.config.records)) c.args.seat.now.me.0.view
    c.sample-word.result c.sample-word.new.seat.me.0.view
told g c =
    let r = c.args.a % c.args.stm.now.config.records in
    tells-of (orec_sample r c.args.a) (FindsRecord c.args.stm.now.config c.args.caller r) _ _ _ c.sample-word.ensures.step

-- the start is a number of the clock
pub is_seen-requires : goal.is_seen-requires
is_seen-requires g c =
    let low = (told g (goal.at.is_seen-requires g c).After-sample-word).1.started in
    let same = c.requires.view.can.start in
    omega arith

pub returns-then-is_seen-clause-samples : goal.returns-then-is_seen-clause-samples
returns-then-is_seen-clause-samples g c =
    let at = (goal.at.returns-then-is_seen-clause-samples g c).After-sample-word in
    let x = c.sample-word.result in
    let f = c.args.stm.now.config in
    let rule = good_of g.K.MemRule.good f c.args.stm.now.rule in
    let seen = subst (λ (b : Bool). TellsSeen b x c.args.local.now.start) c.if-is_seen.true c.is_seen.ensures in
    laws.sampled-old rule f c.args.caller c.requires.caller c.args.a c.args.local.now c.args.seat.now.me.0.view c.requires.view x c.sample-word.new.seat.me.0.view (told g at) seen.0 seen.1

pub returns-then-is_owned-clause-samples : goal.returns-then-is_owned-clause-samples
returns-then-is_owned-clause-samples g c =
    let at = (goal.at.returns-then-is_owned-clause-samples g c).After-sample-word in
    let x = c.sample-word.result in
    let owned : is_owned x ≡ true = sym c.is_owned.ensures ∙ c.if-is_owned.true in
    let f = c.args.stm.now.config in
    let rule = good_of g.K.MemRule.good f c.args.stm.now.rule in
    rw c.requires.record (laws.refused-owned rule f c.args.caller c.requires.caller c.args.a c.args.local.now c.args.seat.now.me.0.view c.requires.view x c.sample-word.new.seat.me.0.view (told g at) owned)

pub validate-requires-clause-view : goal.validate-requires-clause-view
validate-requires-clause-view g c =
    let at = (goal.at.validate-requires-clause-view g c).After-sample-word in
    let x = c.sample-word.result in
    let free : is_owned x ≡ false = sym c.is_owned.ensures ∙ c.if-is_owned.false in
    let f = c.args.stm.now.config in
    let rule = good_of g.K.MemRule.good f c.args.stm.now.rule in
    laws.may-validate rule f c.args.caller c.requires.caller c.args.a c.args.local.now c.args.seat.now.me.0.view c.requires.view x c.sample-word.new.seat.me.0.view (told g at) free

pub returns-in_err-validate-clause-samples : goal.returns-in_err-validate-clause-samples
returns-in_err-validate-clause-samples g c =
    let at = (goal.at.returns-in_err-validate-clause-samples g c).After-sample-word in
    let f = c.args.stm.now.config in
    let rule = good_of g.K.MemRule.good f c.args.stm.now.rule in
    let n = c.args.caller in
    let a = c.args.a in
    let l = c.args.local.now in
    let s = c.args.seat.now.me.0 in
    let x = c.sample-word.result in
    let free : is_owned x ≡ false = sym c.is_owned.ensures ∙ c.if-is_owned.false in
    let unseen = subst (λ (b : Bool). TellsSeen b x l.start) c.if-is_seen.false c.is_seen.ensures in
    let late : l.start < version_of x = laws.newer-of x l.start unseen free in
    let w = c.validate.new.seat.me.0.view in
    let e = c.in_err-validate.ensures.validates in
    let p = err_from_is_err_and c.from_residual.result c.from_residual.ensures.1 in
    let cause = c.in_err-validate.field-0.0 in
    rw (p.1, p.2) (subst (λ (m : Local). RefusesRead rule f n a cause l s.view m w) (sym e.0)
    (laws.refused-stale rule f n c.requires.caller a l s.view c.requires.view x c.sample-word.new.seat.me.0.view (told g at) cause w free late e.1))

pub returns-clause-samples : goal.returns-clause-samples
returns-clause-samples g c =
    let at = (goal.at.returns-clause-samples g c).After-sample-word in
    let l = c.args.local.now in
    let x = c.sample-word.result in
    let free : is_owned x ≡ false = sym c.is_owned.ensures ∙ c.if-is_owned.false in
    let unseen = subst (λ (b : Bool). TellsSeen b x l.start) c.if-is_seen.false c.is_seen.ensures in
    let late : l.start < version_of x = laws.newer-of x l.start unseen free in
    let f = c.args.stm.now.config in
    let rule = good_of g.K.MemRule.good f c.args.stm.now.rule in
    laws.sampled-new rule f c.args.caller c.requires.caller c.args.a l c.args.seat.now.me.0.view c.requires.view x
    c.sample-word.new.seat.me.0.view (told g at) c.validate.new.local c.validate.new.seat.me.0.view free late
    c.in_ok-validate.ensures.validates
