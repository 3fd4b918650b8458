use Rattle.std.proofs.Common.{ℕ, ap, refl, rules}
use Rattle.stm_model.specs.declared.stop.Cause.TheVariants as causes
use Rattle.rule_seq.specs.TmlSteps.{tml_load, TmlLoads, tml_again}
use Rattle.stm_rule.specs.Attempts.{own_of}
use Rattle.stm_rule.specs.declared.local.Local.{Local}
use Rattle.stm_rule.specs.Findings.{FindsAgain}
use Rattle.stm_rule.specs.Kept.{good_of}
use Rattle.stm_rule.proofs.StandLemmas.{tells-of}
use Rattle.stm_answers.specs.declared.answers.Read.TheVariants as reads
use Rattle.stm_answers.specs.Answers as answers
use Rattle.stm_answers.specs.CallerState.{CallerState}
use Rattle.stm_gate.proofs.Opening.{opened, shows}
use Rattle.alg_seq.proofs.TmlLaws as laws
use Rattle.alg_seq.proofs.TmlOpening.{plain-of}
use Rattle.alg_seq.proofs.tml.TmlAlgorithm.read.Goals as goal

pub returns-then-desc-clause-read : goal.returns-then-desc-clause-read
returns-then-desc-clause-read g c =
    let a = opened g.K.MemRule.good c.args.stm.now c.desc.inside.number c.desc.inside.local c.desc.view_is refl c.desc.invariant.0.named c.desc.invariant.0.low c.desc.invariant.1 c.requires.stm in
    shows _ _ a
    (λ (n : ℕ) (v w : CallerState).
    answers.HasRead (g.K.MemRule.good c.args.stm.now.rule) c.args.stm.now.config n c.args.a (reads.Value c.tml_load-x.result) v w)
    c.tml_load-x.new.seat.me.0.view c.desc.inside.local refl
    (laws.tells-in_place _ _ _ (plain-of g.K.MemRule.good c.args.stm.now a c.requires.running.0 c.requires.algorithm c.requires.unpromoted)
    c.args.a c.tml_load-x.result c.tml_load-x.new.seat.me.0.view (search rules) c.requires.inside (search rules)
    (tells-of (tml_load c.args.a)
    (TmlLoads (good_of g.K.MemRule.good c.args.stm.now.config c.args.stm.now.rule) c.args.stm.now.config c.args.a) _ _ _
    c.tml_load-x.ensures.step))

pub returns-then-clock-desc-clause-read : goal.returns-then-clock-desc-clause-read
returns-then-clock-desc-clause-read g c =
    let a = opened g.K.MemRule.good c.args.stm.now c.desc.inside.number c.desc.inside.local c.desc.view_is refl c.desc.invariant.0.named c.desc.invariant.0.low c.desc.invariant.1 c.requires.stm in
    let start = ap (λ (l : Local). l.start) c.withdraw.ensures.idle in
    let rule = good_of g.K.MemRule.good c.args.stm.now.config c.args.stm.now.rule in
    shows _ _ a
    (λ (n : ℕ) (v w : CallerState).
    answers.HasRead (g.K.MemRule.good c.args.stm.now.rule) c.args.stm.now.config n c.args.a
    (reads.Conflict (causes.Clock c.withdraw.new.local.start c.tml_again-clock.result)) v w) c.withdraw.new.seat.me.0.view
    c.withdraw.new.local (ap own_of c.withdraw.ensures.idle)
    (rw start
    (laws.tells-conflict _ _ _ (plain-of g.K.MemRule.good c.args.stm.now a c.requires.running.0 c.requires.algorithm c.requires.unpromoted)
    c.args.a c.tml_load-x.result c.tml_again-clock.result c.tml_load-x.new.seat.me.0.view c.tml_again-clock.new.seat.me.0.view
    c.withdraw.new.seat.me.0.view a.low (search rules) (search rules)
    (tells-of (tml_load c.args.a) (TmlLoads rule c.args.stm.now.config c.args.a) _ _ _ c.tml_load-x.ensures.step)
    (tells-of tml_again (FindsAgain rule c.args.stm.now.config) _ _ _ c.tml_again-clock.ensures.step)
    (ap (λ q. q.view) c.withdraw.ensures.left)))

pub returns-clause-read : goal.returns-clause-read
returns-clause-read g c =
    let a = opened g.K.MemRule.good c.args.stm.now c.desc.inside.number c.desc.inside.local c.desc.view_is refl c.desc.invariant.0.named c.desc.invariant.0.low c.desc.invariant.1 c.requires.stm in
    let rule = good_of g.K.MemRule.good c.args.stm.now.config c.args.stm.now.rule in
    shows _ _ a
    (λ (n : ℕ) (v w : CallerState).
    answers.HasRead (g.K.MemRule.good c.args.stm.now.rule) c.args.stm.now.config n c.args.a (reads.Value c.tml_load-x.result) v w)
    c.tml_again-clock.new.seat.me.0.view c.desc.inside.local refl
    (laws.tells-read _ _ _ (plain-of g.K.MemRule.good c.args.stm.now a c.requires.running.0 c.requires.algorithm c.requires.unpromoted)
    c.args.a c.tml_load-x.result c.tml_again-clock.result c.tml_load-x.new.seat.me.0.view c.tml_again-clock.new.seat.me.0.view
    (search rules) c.requires.inside (search rules) (search rules)
    (tells-of (tml_load c.args.a) (TmlLoads rule c.args.stm.now.config c.args.a) _ _ _ c.tml_load-x.ensures.step)
    (tells-of tml_again (FindsAgain rule c.args.stm.now.config) _ _ _ c.tml_again-clock.ensures.step))
