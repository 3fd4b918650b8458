use Rattle.std.proofs.Common.{ℕ, ◌+◌, ap, refl, rules}
use Rattle.rule_seq.specs.CglSteps as steps
use Rattle.rule_seq.specs.TmlSteps.{tml_commit}
use Rattle.stm_rule.specs.Attempts.{own_of}
use Rattle.stm_rule.specs.Kept.{good_of}
use Rattle.stm_rule.proofs.StandLemmas.{tells-of}
use Rattle.stm_answers.specs.declared.answers.Commit.TheVariants as commits
use Rattle.stm_answers.specs.Answers as answers
use Rattle.stm_answers.specs.CallerState.{CallerState}
use Rattle.stm_gate.proofs.Opening.{opened, shows, of-view}
use Rattle.alg_seq.proofs.TmlLaws as laws
use Rattle.alg_seq.proofs.TmlOpening.{plain}
use Rattle.alg_seq.proofs.tml.TmlAlgorithm.commit.Goals as goal

pub returns-then-not-desc-clause-commits : goal.returns-then-not-desc-clause-commits
returns-then-not-desc-clause-commits g c =
    let a = opened g.K.MemRule.good c.args.stm.now c.desc.inside.number c.desc.inside.local c.desc.view_is refl c.desc.invariant.0.named c.desc.invariant.0.low c.desc.invariant.1 c.requires.stm in
    shows _ _ a
    (λ (n : ℕ) (v w : CallerState).
    answers.Commits (g.K.MemRule.good c.args.stm.now.rule) c.args.stm.now.config n (commits.ReadOnly c.desc.inside.local.start) v w)
    c.leave.new.seat.me.0.view c.leave.new.local (ap own_of c.leave.ensures.idle)
    (laws.tells-read_only _ _ _ (plain g.K.MemRule.good c.args.stm.now a c.requires.running c.requires.algorithm (search rules)) c.leave.new.seat.me.0.view (search rules) (ap (λ q. q.view) c.leave.ensures.left))

pub tml_commit-requires-clause-view : goal.tml_commit-requires-clause-view
tml_commit-requires-clause-view g c =
    let a = opened g.K.MemRule.good c.args.stm.now c.desc.inside.number c.desc.inside.local c.desc.view_is refl c.desc.invariant.0.named c.desc.invariant.0.low c.desc.invariant.1 c.requires.stm in
    laws.may-commit _ _ _ (plain g.K.MemRule.good c.args.stm.now a c.requires.running c.requires.algorithm (search rules)) (c.desc.inside.local.start + 2) refl (search rules)
    (of-view _ _ a (answers.KeepsRule (g.K.MemRule.good c.args.stm.now.rule) c.args.stm.now.config) c.requires.keeps)

pub returns-clause-commits : goal.returns-clause-commits
returns-clause-commits g c =
    let a = opened g.K.MemRule.good c.args.stm.now c.desc.inside.number c.desc.inside.local c.desc.view_is refl c.desc.invariant.0.named c.desc.invariant.0.low c.desc.invariant.1 c.requires.stm in
    let t = c.desc.inside.local.start + 2 in
    shows _ _ a
    (λ (n : ℕ) (v w : CallerState).
    answers.Commits (g.K.MemRule.good c.args.stm.now.rule) c.args.stm.now.config n (commits.Committed t) v w) c.leave-2.new.seat.me.0.view
    c.leave-2.new.local (ap own_of c.leave-2.ensures.idle)
    (laws.tells-committed _ _ _ (plain g.K.MemRule.good c.args.stm.now a c.requires.running c.requires.algorithm (search rules)) t
    c.tml_commit.new.seat.me.0.view c.leave-2.new.seat.me.0.view refl (search rules)
    (tells-of (tml_commit c.desc.inside.number t)
    (steps.Commits (good_of g.K.MemRule.good c.args.stm.now.config c.args.stm.now.rule) c.args.stm.now.config c.desc.inside.number t) _ _ _
    c.tml_commit.ensures.step) (ap (λ q. q.view) c.leave-2.ensures.left))
