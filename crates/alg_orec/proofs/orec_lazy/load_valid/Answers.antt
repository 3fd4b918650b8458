use Rattle.std.proofs.Common.{ℕ, ◌≡◌, ◌≢◌, rules, subst, sym, ap, ◌∙◌}
use Rattle.rule_base.specs.declared.views.View.{View}
use Rattle.rule_base.specs.Encodings.{fenced}
use Rattle.rule_base.specs.Ranks.{home_of}
use Rattle.rule_base.specs.StepKinds.{Nothing, Tells}
use Rattle.rule_orec.specs.OrecSteps.{orec_load, orec_confirm, CanOrecConfirm}
use Rattle.stm_rule.specs.Kept.{good_of}
use Rattle.stm_rule.proofs.StandLemmas.{tells-of}
use Rattle.alg_orec.specs.RecordFindings.{FindsAgain}
use Rattle.alg_orec.proofs.LoadLaws as laws
use Rattle.alg_orec.proofs.orec_lazy.load_valid.Goals as goal

pub load-x-requires-clause-view : goal.load-x-requires-clause-view
load-x-requires-clause-view g c =
    let f = c.args.stm.now.config in
    let rule = good_of g.K.MemRule.good f c.args.stm.now.rule in
    laws.may-load rule f c.args.caller c.requires.caller c.args.a c.args.local.now c.args.seat.now.me.0.view c.requires.view
    c.in_ok-word.word c.sample_valid.new.local c.sample_valid.new.seat.me.0.view c.in_ok-word.ensures.samples

pub load-x-requires-clause-spared : goal.load-x-requires-clause-spared
load-x-requires-clause-spared g c = ap (λ (y : View). fenced y.gate.fence c.args.a) c.in_ok-word.ensures.samples.is ∙ c.requires.spared

pub confirm-after-requires-clause-view : goal.confirm-after-requires-clause-view
confirm-after-requires-clause-view g c =
    let f = c.args.stm.now.config in
    let rule = good_of g.K.MemRule.good f c.args.stm.now.rule in
    let t = c.sample_valid.new.seat.me.0 in
    let x = c.load-x.result in
    let u = c.load-x.new.seat.me.0 in
    subst (λ (r : ℕ). CanOrecConfirm (home_of f) f.words r u.view) (sym c.record_of-r.ensures)
    (laws.may-confirm rule f c.args.caller c.requires.caller c.args.a c.args.local.now c.args.seat.now.me.0.view c.requires.view
    c.in_ok-word.word c.sample_valid.new.local t.view c.in_ok-word.ensures.samples x u.view
    (tells-of (orec_load c.args.a) Nothing t x u c.load-x.ensures.step))

pub returns-then-after-word-clause-loads : goal.returns-then-after-word-clause-loads
returns-then-after-word-clause-loads g c =
    let f = c.args.stm.now.config in
    let rule = good_of g.K.MemRule.good f c.args.stm.now.rule in
    let n = c.args.caller in
    let r = c.record_of-r.result in
    let t = c.sample_valid.new.seat.me.0 in
    let x = c.load-x.result in
    let u = c.load-x.new.seat.me.0 in
    let y = c.confirm-after.result in
    let w = c.confirm-after.new.seat.me.0 in
    let again = subst (λ (k : ℕ). Tells (orec_confirm k) (FindsAgain rule f n k) u.view y w.view) c.record_of-r.ensures (tells-of (orec_confirm r) (FindsAgain rule f n r) u y w c.confirm-after.ensures.step) in
    let apart : y ≢ c.in_ok-word.word = search rules in
    rw c.record_of-r.ensures (laws.refused-moved rule f n c.requires.caller c.args.a c.args.local.now c.args.seat.now.me.0.view
    c.requires.view c.in_ok-word.word c.sample_valid.new.local t.view c.in_ok-word.ensures.samples x u.view
    (tells-of (orec_load c.args.a) Nothing t x u c.load-x.ensures.step) y w.view
    again apart)

pub returns-clause-loads : goal.returns-clause-loads
returns-clause-loads g c =
    let f = c.args.stm.now.config in
    let rule = good_of g.K.MemRule.good f c.args.stm.now.rule in
    let n = c.args.caller in
    let r = c.record_of-r.result in
    let t = c.sample_valid.new.seat.me.0 in
    let x = c.load-x.result in
    let u = c.load-x.new.seat.me.0 in
    let y = c.confirm-after.result in
    let w = c.confirm-after.new.seat.me.0 in
    let again = subst (λ (k : ℕ). Tells (orec_confirm k) (FindsAgain rule f n k) u.view y w.view) c.record_of-r.ensures (tells-of (orec_confirm r) (FindsAgain rule f n r) u y w c.confirm-after.ensures.step) in
    let same : y ≡ c.in_ok-word.word = search rules in
    laws.loads-same rule f n c.requires.caller c.args.a c.args.local.now c.args.seat.now.me.0.view c.requires.view c.in_ok-word.word
    c.sample_valid.new.local t.view c.in_ok-word.ensures.samples x u.view
    (tells-of (orec_load c.args.a) Nothing t x u c.load-x.ensures.step) y w.view
    again same
