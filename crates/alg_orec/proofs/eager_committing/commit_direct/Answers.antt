use Rattle.std.proofs.Common.{ℕ, ◌+◌, length, arith, sym, ap, ◌∙◌, refl, rules}
use Rattle.rule_base.specs.declared.seats.SeatView.{SeatView}
use Rattle.rule_base.specs.declared.views.View.{View}
use Rattle.rule_base.specs.InstallSteps.{store_base, store_done}
use Rattle.rule_base.specs.StepKinds.{Nothing}
use Rattle.rule_seq.specs.CglSteps.{Commits}
use Rattle.rule_promoted.specs.PromotedSteps.{direct_commit}
use Rattle.stm_rule.specs.declared.local.Local.{Local}
use Rattle.stm_rule.specs.Attempts.{own_of}
use Rattle.stm_rule.specs.Callers.{Handle}
use Rattle.stm_rule.specs.Kept.{good_of}
use Rattle.stm_rule.proofs.StandLemmas.{tells-of}
use Rattle.stm_answers.specs.declared.answers.Commit.TheVariants.{Committed, ReadOnly}
use Rattle.stm_answers.specs.Answers.{KeepsRule}
use Rattle.stm_answers.specs.Answers as answers
use Rattle.stm_answers.specs.CallerState.{CallerState}
use Rattle.stm_gate.proofs.DirectLaws as direct
use Rattle.stm_gate.proofs.Opening.{Opened, opened, of-view, shows}
use Rattle.alg_orec.proofs.CommitOpening.{Promoted, promoted}
use Rattle.alg_orec.proofs.Eager.EagerDirectLaws as laws
use Rattle.alg_orec.proofs.eager_committing.commit_direct.Goals.{After-desc}
use Rattle.alg_orec.proofs.eager_committing.commit_direct.Goals as goal

opens : (g : _) (c : After-desc g) → Opened g.K.MemRule.good c.args.stm.now c.args.desc.now c.desc.inside.seat.me.0.who
    c.desc.inside.seat.me.0.view c.desc.inside.number c.desc.inside.local
opens g c = opened g.K.MemRule.good c.args.stm.now c.desc.inside.number c.desc.inside.local c.desc.view_is refl
    c.desc.invariant.0.named c.desc.invariant.0.low c.desc.invariant.1 c.requires.stm

here : (g : _) (c : After-desc g) → Promoted (g.K.MemRule.good c.args.stm.now.rule) c.args.stm.now.config
    c.desc.inside.number c.desc.inside.local c.desc.inside.seat.me.0.view
here g c = promoted g.K.MemRule.good c.args.stm.now (opens g c) c.requires.running c.requires.algorithm
    c.requires.granted

pub give_above-requires-clause-view : goal.give_above-requires-clause-view
give_above-requires-clause-view g c =
    laws.may-give-above (here g (goal.at.give_above-requires-clause-view g c).After-desc) (search rules)

pub leave-requires-clause-view : goal.leave-requires-clause-view
leave-requires-clause-view g c =
    laws.may-leave (here g (goal.at.leave-requires-clause-view g c).After-desc) _ c.give_above.ensures.gives

pub leave-requires-clause-named : goal.leave-requires-clause-named
leave-requires-clause-named g c =
    sym (here g (goal.at.leave-requires-clause-named g c).After-desc).inside.named
    ∙ sym (ap (λ (y : View). y.gate.algorithm) c.give_above.ensures.gives.is)

pub returns-then-not-desc-clause-commits : goal.returns-then-not-desc-clause-commits
returns-then-not-desc-clause-commits g c =
    let a = (goal.at.returns-then-not-desc-clause-commits g c).After-desc in
    let p = here g a in
    shows g.K.MemRule.good c.args.stm.now (opens g a)
    (λ (n : ℕ) (v w : CallerState). answers.Commits (g.K.MemRule.good c.args.stm.now.rule) c.args.stm.now.config n
    (ReadOnly c.desc.inside.local.start) v w)
    c.leave.new.seat.me.0.view c.leave.new.local (ap own_of c.leave.ensures.idle)
    (laws.tells-read_only p _ c.give_above.ensures.gives (search rules) _ (own_of c.desc.inside.local)
    (ap (λ (y : SeatView g.row.K.Denot). y.view) c.leave.ensures.left))

pub direct_commit-requires-clause-view : goal.direct_commit-requires-clause-view
direct_commit-requires-clause-view g c =
    let a = (goal.at.direct_commit-requires-clause-view g c).After-desc in
    let p = here g a in
    direct.may-commit _ _ _ _ _ c.desc.inside.local _ (own_of c.desc.inside.local) refl
    (ap (λ (k : ℕ). c.desc.inside.local.start + k) c.entry_rise.ensures) (search rules) (laws.closes p)
    (laws.granted-here p) p.inside
    (of-view g.K.MemRule.good c.args.stm.now (opens g a)
    (KeepsRule (g.K.MemRule.good c.args.stm.now.rule) c.args.stm.now.config) c.requires.keeps)

pub give_direct-requires-clause-view : goal.give_direct-requires-clause-view
give_direct-requires-clause-view g c =
    laws.may-give (here g (goal.at.give_direct-requires-clause-view g c).After-desc) _ _ _
    (ap (λ (y : SeatView g.row.K.Denot). y.view) c.direct_commit.ensures.step.3)

pub store_base-requires-clause-view : goal.store_base-requires-clause-view
store_base-requires-clause-view g c =
    laws.may-base (here g (goal.at.store_base-requires-clause-view g c).After-desc) _ _ _
    (ap (λ (y : SeatView g.row.K.Denot). y.view) c.direct_commit.ensures.step.3) _ c.give_direct.ensures.releases

pub store_done-requires-clause-view : goal.store_done-requires-clause-view
store_done-requires-clause-view g c =
    let time = c.desc.inside.local.start + c.entry_rise.result in
    laws.may-done (here g (goal.at.store_done-requires-clause-view g c).After-desc) _ _ _
    (ap (λ (y : SeatView g.row.K.Denot). y.view) c.direct_commit.ensures.step.3) _ c.give_direct.ensures.releases
    _ (tells-of (store_base time) Nothing _ time _ c.store_base.ensures.step)

pub leave-requires-2-clause-view : goal.leave-requires-2-clause-view
leave-requires-2-clause-view g c =
    let time = c.desc.inside.local.start + c.entry_rise.result in
    laws.may-end (here g (goal.at.leave-requires-2-clause-view g c).After-desc) _ _ _
    (ap (λ (y : SeatView g.row.K.Denot). y.view) c.direct_commit.ensures.step.3) _ c.give_direct.ensures.releases
    _ (tells-of (store_base time) Nothing _ time _ c.store_base.ensures.step) _
    (tells-of (store_done time) Nothing _ time _ c.store_done.ensures.step)

pub returns-clause-commits : goal.returns-clause-commits
returns-clause-commits g c =
    let a = (goal.at.returns-clause-commits g c).After-desc in
    let f = c.args.stm.now.config in
    let d = c.desc.inside in
    let time = d.local.start + c.entry_rise.result in
    let entered = tells-of (direct_commit d.number _ time)
    (Commits (good_of g.K.MemRule.good f c.args.stm.now.rule) f d.number time) _ time _ c.direct_commit.ensures.step
    in
    shows g.K.MemRule.good c.args.stm.now (opens g a)
    (λ (n : ℕ) (v w : CallerState). answers.Commits (g.K.MemRule.good c.args.stm.now.rule) f n (Committed time) v w)
    c.leave-2.new.seat.me.0.view c.leave-2.new.local (ap own_of c.leave-2.ensures.idle)
    (laws.tells-commit (here g a) time (search rules) (ap (λ (k : ℕ). d.local.start + k) c.entry_rise.ensures) _ entered
    _ c.give_direct.ensures.releases
    _ (tells-of (store_base time) Nothing _ time _ c.store_base.ensures.step) _
    (tells-of (store_done time) Nothing _ time _ c.store_done.ensures.step)
    c.leave-2.new.seat.me.0.view (own_of d.local) (ap (λ (y : SeatView g.row.K.Denot). y.view) c.leave-2.ensures.left))

pub returns-clause-steps : goal.returns-clause-steps
returns-clause-steps g c =
    let a = (goal.at.returns-clause-steps g c).After-desc in
    let within = (laws.k (here g a)).few in
    let first = ap (λ (k : CallerState). length k.step_trace) (opens g a).knows in
    let words = ap (λ (k : CallerState). k.writes_limit) (opens g a).knows in
    let entered = ap (λ (y : SeatView g.row.K.Denot). length y.view.steps.step_trace) c.direct_commit.ensures.step.3 in
    let given = c.give_direct.ensures.steps in
    let based = ap (λ (y : SeatView g.row.K.Denot). length y.view.steps.step_trace) c.store_base.ensures.step.3 in
    let done = ap (λ (y : SeatView g.row.K.Denot). length y.view.steps.step_trace) c.store_done.ensures.step.3 in
    let last = c.leave-2.ensures.steps in
    omega arith

pub returns-then-not-desc-clause-buffered : goal.returns-then-not-desc-clause-buffered
returns-then-not-desc-clause-buffered g c = ap (λ (l : Local). (own_of l).buffered) c.leave.ensures.idle
    ∙ ap (λ (d : Handle g.row.K.Denot). d.own.buffered) c.desc.view_is

pub returns-clause-buffered : goal.returns-clause-buffered
returns-clause-buffered g c = ap (λ (l : Local). (own_of l).buffered) c.leave-2.ensures.idle
    ∙ ap (λ (d : Handle g.row.K.Denot). d.own.buffered) c.desc.view_is
