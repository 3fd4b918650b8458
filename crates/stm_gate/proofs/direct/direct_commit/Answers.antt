use Rattle.std.proofs.Common.{ℕ, ◌≡◌, ◌+◌, subst, sym, ap, refl, true, rules}
use Rattle.stm_model.specs.Algorithms.{closes_gate}
use Rattle.rule_base.specs.InstallSteps.{store_base, store_done}
use Rattle.rule_base.specs.StepKinds.{Nothing}
use Rattle.rule_seq.specs.CglSteps.{Commits}
use Rattle.rule_promoted.specs.PromotedSteps.{direct_commit}
use Rattle.stm_rule.specs.Attempts.{own_of}
use Rattle.stm_rule.specs.Callers.{Handle, handle_of}
use Rattle.stm_rule.specs.Kept.{good_of}
use Rattle.stm_rule.proofs.StandLemmas.{tells-of}
use Rattle.stm_answers.specs.declared.answers.Commit.TheVariants.{Committed, ReadOnly}
use Rattle.stm_answers.specs.Answers.{KeepsRule}
use Rattle.stm_answers.specs.Answers as answers
use Rattle.stm_answers.specs.CallerState.{CallerState, caller_of}
use Rattle.stm_gate.specs.Knowing.{known, number}
use Rattle.stm_gate.proofs.Standing.{runs-of, shown-of}
use Rattle.stm_gate.proofs.DirectLaws.{tells-read_only, may-commit, tells-commit, may-base, may-done}
use Rattle.stm_gate.proofs.direct.direct_commit.Goals as goal

pub returns-then-not-desc-clause-commits : goal.returns-then-not-desc-clause-commits
returns-then-not-desc-clause-commits g c =
    shown-of (λ (n : ℕ) (v w : CallerState).
    answers.Commits (g.K.MemRule.good c.args.stm.now.rule) c.args.stm.now.config n (ReadOnly c.desc.inside.local.start) v w) _ _ _
    c.leave.new.seat.me.0.view c.desc.inside.local c.leave.new.local c.desc.view_is (ap own_of c.leave.ensures.idle)
    (ap caller_of c.desc.invariant.0.named)
    (tells-read_only _ _ _ _ _ c.leave.new.seat.me.0.view (own_of c.desc.inside.local) (search rules)
    (subst (λ (p : Handle g.row.K.Denot). closes_gate (known p).alg ≡ true) (sym c.desc.view_is) c.requires.closes)
    (subst (λ (p : Handle g.row.K.Denot). (known p).granted ≡ true) (sym c.desc.view_is) c.requires.granted)
    (runs-of g.K.MemRule.good _ _ _ _ _ _ c.desc.view_is c.requires.stm.config c.requires.stm.rule c.requires.running.0 c.desc.invariant.1)
    (ap (λ y. y.view) c.leave.ensures.left))

pub direct_commit-requires-clause-view : goal.direct_commit-requires-clause-view
direct_commit-requires-clause-view g c =
    may-commit _ _ _ c.desc.inside.local.algorithm (c.desc.inside.local.start + c.entry_rise.result) c.desc.inside.local
    c.desc.inside.seat.me.0.view (own_of c.desc.inside.local) refl (ap (λ (k : ℕ). c.desc.inside.local.start + k) c.entry_rise.ensures)
    (search rules) (subst (λ (p : Handle g.row.K.Denot). closes_gate (known p).alg ≡ true) (sym c.desc.view_is) c.requires.closes)
    (subst (λ (p : Handle g.row.K.Denot). (known p).granted ≡ true) (sym c.desc.view_is) c.requires.granted)
    (runs-of g.K.MemRule.good _ _ _ _ _ _ c.desc.view_is c.requires.stm.config c.requires.stm.rule c.requires.running.0 c.desc.invariant.1)
    (subst (λ (k : ℕ).
    KeepsRule (g.K.MemRule.good c.args.stm.now.rule) c.args.stm.now.config k
    (known (handle_of c.desc.inside.seat (own_of c.desc.inside.local)))) (ap caller_of c.desc.invariant.0.named)
    (subst (λ (p : Handle g.row.K.Denot). KeepsRule (g.K.MemRule.good c.args.stm.now.rule) c.args.stm.now.config (number p) (known p))
    (sym c.desc.view_is) c.requires.keeps))

pub store_base-requires-clause-view : goal.store_base-requires-clause-view
store_base-requires-clause-view g c =
    may-base _ _ _ c.desc.inside.local.algorithm (c.desc.inside.local.start + c.entry_rise.result) c.desc.inside.local
    c.desc.inside.seat.me.0.view c.direct_commit.new.seat.me.0.view
    (subst (λ (p : Handle g.row.K.Denot). closes_gate (known p).alg ≡ true) (sym c.desc.view_is) c.requires.closes)
    (subst (λ (p : Handle g.row.K.Denot). (known p).granted ≡ true) (sym c.desc.view_is) c.requires.granted)
    (runs-of g.K.MemRule.good _ _ _ _ _ _ c.desc.view_is c.requires.stm.config c.requires.stm.rule c.requires.running.0 c.desc.invariant.1) (
    tells-of (direct_commit c.desc.inside.number c.desc.inside.local.algorithm (c.desc.inside.local.start + c.entry_rise.result))
    (Commits (good_of g.K.MemRule.good c.args.stm.now.config c.args.stm.now.rule) c.args.stm.now.config c.desc.inside.number
    (c.desc.inside.local.start + c.entry_rise.result)) _ _ _ c.direct_commit.ensures.step)

pub store_done-requires-clause-view : goal.store_done-requires-clause-view
store_done-requires-clause-view g c =
    let t = c.desc.inside.local.start + c.entry_rise.result in
    may-done _ _ _ c.desc.inside.local.algorithm t c.desc.inside.local c.desc.inside.seat.me.0.view c.direct_commit.new.seat.me.0.view
    c.store_base.new.seat.me.0.view
    (subst (λ (p : Handle g.row.K.Denot). closes_gate (known p).alg ≡ true) (sym c.desc.view_is) c.requires.closes)
    (subst (λ (p : Handle g.row.K.Denot). (known p).granted ≡ true) (sym c.desc.view_is) c.requires.granted)
    (runs-of g.K.MemRule.good _ _ _ _ _ _ c.desc.view_is c.requires.stm.config c.requires.stm.rule c.requires.running.0 c.desc.invariant.1) (
    tells-of (direct_commit c.desc.inside.number c.desc.inside.local.algorithm t)
    (Commits (good_of g.K.MemRule.good c.args.stm.now.config c.args.stm.now.rule) c.args.stm.now.config c.desc.inside.number t) _ t _
    c.direct_commit.ensures.step)
    (tells-of (store_base t) Nothing _ t _ c.store_base.ensures.step)

pub returns-clause-commits : goal.returns-clause-commits
returns-clause-commits g c =
    let t = c.desc.inside.local.start + c.entry_rise.result in
    let shown = Commits (good_of g.K.MemRule.good c.args.stm.now.config c.args.stm.now.rule) c.args.stm.now.config c.desc.inside.number t in
    shown-of
    (λ (n : ℕ) (v w : CallerState). answers.Commits (g.K.MemRule.good c.args.stm.now.rule) c.args.stm.now.config n (Committed t) v w) _ _ _
    c.leave-2.new.seat.me.0.view c.desc.inside.local c.leave-2.new.local c.desc.view_is (ap own_of c.leave-2.ensures.idle)
    (ap caller_of c.desc.invariant.0.named)
    (tells-commit _ _ _ c.desc.inside.local.algorithm t c.desc.inside.local c.desc.inside.seat.me.0.view c.direct_commit.new.seat.me.0.view
    c.store_base.new.seat.me.0.view c.store_done.new.seat.me.0.view c.leave-2.new.seat.me.0.view (own_of c.desc.inside.local) refl
    (ap (λ (k : ℕ). c.desc.inside.local.start + k) c.entry_rise.ensures) (search rules)
    (subst (λ (p : Handle g.row.K.Denot). closes_gate (known p).alg ≡ true) (sym c.desc.view_is) c.requires.closes)
    (subst (λ (p : Handle g.row.K.Denot). (known p).granted ≡ true) (sym c.desc.view_is) c.requires.granted)
    (runs-of g.K.MemRule.good _ _ _ _ _ _ c.desc.view_is c.requires.stm.config c.requires.stm.rule c.requires.running.0 c.desc.invariant.1)
    (tells-of (direct_commit c.desc.inside.number c.desc.inside.local.algorithm t) shown _ t _ c.direct_commit.ensures.step)
    (tells-of (store_base t) Nothing _ t _ c.store_base.ensures.step) (tells-of (store_done t) Nothing _ t _ c.store_done.ensures.step) (ap (λ q. q.view) c.leave-2.ensures.left))
