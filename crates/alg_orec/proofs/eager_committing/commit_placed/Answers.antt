use Rattle.std.proofs.Common.{◌+◌, [], subst, sym, ap, refl, false, rules, ◌∙◌}
use Rattle.rule_base.specs.declared.seats.SeatView.{SeatView}
use Rattle.rule_base.specs.declared.views.GateView.{GateView}
use Rattle.rule_base.specs.declared.views.View.{View}
use Rattle.rule_base.specs.Own.{Own}
use Rattle.rule_base.specs.StepKinds.{Tells}
use Rattle.rule_orec.specs.OrecSteps.{orec_limit, orec_commit}
use Rattle.stm_rule.specs.declared.local.Local.{Local}
use Rattle.stm_rule.specs.Attempts.{own_of, ended, Stands}
use Rattle.stm_rule.specs.Kept.{good_of}
use Rattle.alg_orec.specs.RecordFindings.{FindsClock, FindsCommit}
use Rattle.stm_answers.specs.declared.answers.Commit.TheVariants as commits
use Rattle.stm_answers.specs.Answers as answers
use Rattle.stm_answers.specs.CallerState.{known_of}
use Rattle.alg_orec.specs.EagerCommitting.{CanCommitPlaced}
use Rattle.alg_orec.proofs.Eager.EagerCommitLaws as laws
use Rattle.alg_orec.proofs.eager_committing.commit_placed.Goals.{In_default, After-limit-clock, After-commit_placed-now}
use Rattle.alg_orec.proofs.eager_committing.commit_placed.Goals as goal

-- the attempt where its reads are valid
ready : (g : _) (c : In_default g) → CanCommitPlaced (g.K.MemRule.good c.args.stm.now.rule) c.args.stm.now.config
    c.args.caller c.revalidate.new.local c.revalidate.new.seat.me.0.view
ready g c = laws.can-ready c.requires.attempt c.in_default.ensures.revalidates

-- where it asked for the clock
asked : (g : _) (c : After-limit-clock g) → Tells orec_limit (FindsClock c.args.stm.now.config)
    c.revalidate.new.seat.me.0.view c.limit-clock.result c.limit-clock.new.seat.me.0.view
asked g c = let h = c.limit-clock.ensures.step in (h.0, h.1, ap (λ (x : SeatView g.row.K.Denot). x.view) h.3)

-- and where it tried to make its entry
tried : (g : _) (c : After-commit_placed-now g) →
    Tells (orec_commit c.args.caller c.revalidate.new.local.start c.revalidate.new.seat.me.0.view.owned.in_place [])
    (FindsCommit (good_of g.K.MemRule.good c.args.stm.now.config c.args.stm.now.rule) c.args.stm.now.config
    c.args.caller c.revalidate.new.local.start c.revalidate.new.seat.me.0.view.owned.in_place)
    c.revalidate.new.seat.me.0.view c.commit_placed-now.result c.commit_placed-now.new.seat.me.0.view
tried g c = let h = c.commit_placed-now.ensures.step in (h.0, h.1, ap (λ (x : SeatView g.row.K.Denot). x.view) h.3)

pub abort-requires-clause-view : goal.abort-requires-clause-view
abort-requires-clause-view g c = laws.may-take-overrun c.requires.attempt c.in-Err.cause _ _
    c.in-Err.ensures.revalidates

pub abort-requires-clause-holds : goal.abort-requires-clause-holds
abort-requires-clause-holds g c =
    let s = c.in-Err.ensures.revalidates in
    ap (λ (q : Local). q.holds) s.local ∙ (c.requires.attempt.holds ∙ sym (ap (λ (y : View). y.gate.holds) s.is))

pub abort-requires-clause-named : goal.abort-requires-clause-named
abort-requires-clause-named g c =
    let s = c.in-Err.ensures.revalidates in
    ap (λ (q : Local). q.algorithm) s.local
    ∙ (sym c.requires.attempt.inside.named ∙ sym (ap (λ (y : View). y.gate.algorithm) s.is))

pub returns-in-Err-clause-commits : goal.returns-in-Err-clause-commits
returns-in-Err-clause-commits g c =
    let P = λ (z : View) (q : Local). answers.Commits (g.K.MemRule.good c.args.stm.now.rule) c.args.stm.now.config
    c.args.caller (commits.Conflict c.in-Err.cause) (known_of c.args.seat.now.me.0.view (own_of c.args.local.now))
    (known_of z (own_of q)) in
    let z = c.abort.new.seat.me.0.view in
    subst (P z) (sym c.abort.ensures.idle) (subst (λ (q : Local). P z (ended (record q { committing = false })))
    (sym c.in-Err.ensures.revalidates.local)
    (laws.tells-stopped c.requires.attempt (own_of c.args.local.now) refl c.in-Err.cause _ _ z c.in-Err.ensures.revalidates
    c.abort.ensures.aborts))

pub returns-in-Err-clause-stands : goal.returns-in-Err-clause-stands
returns-in-Err-clause-stands g c =
    let P = λ (q : Local). Stands (g.K.MemRule.good c.args.stm.now.rule) c.args.stm.now.config c.args.caller q
    c.abort.new.seat.me.0.view in
    subst P (sym c.abort.ensures.idle) (subst (λ (q : Local). P (ended (record q { committing = false })))
    (sym c.in-Err.ensures.revalidates.local)
    (laws.ended-stands _ _ _ (record c.args.local.now { committing = false }) _ c.requires.attempt.lengths
    c.abort.ensures.aborts.outside))

pub limit-clock-requires-clause-view : goal.limit-clock-requires-clause-view
limit-clock-requires-clause-view g c = laws.may-limit
    (ready g (goal.at.limit-clock-requires-clause-view g c).In_default)

pub abort-requires-then-start-ge-CLOCK_LIMIT-clause-view : goal.abort-requires-then-start-ge-CLOCK_LIMIT-clause-view
abort-requires-then-start-ge-CLOCK_LIMIT-clause-view g c =
    let at = goal.at.abort-requires-then-start-ge-CLOCK_LIMIT-clause-view g c in
    laws.may-take-full (ready g at.In_default) c.revalidate.new.local.committing _ _ (asked g at.After-limit-clock)

pub abort-requires-then-start-ge-CLOCK_LIMIT-clause-holds : goal.abort-requires-then-start-ge-CLOCK_LIMIT-clause-holds
abort-requires-then-start-ge-CLOCK_LIMIT-clause-holds g c =
    let at = goal.at.abort-requires-then-start-ge-CLOCK_LIMIT-clause-holds g c in
    (ready g at.In_default).holds ∙ sym (ap (λ (y : View). y.gate.holds) (asked g at.After-limit-clock).2)

pub abort-requires-then-start-ge-CLOCK_LIMIT-clause-named : goal.abort-requires-then-start-ge-CLOCK_LIMIT-clause-named
abort-requires-then-start-ge-CLOCK_LIMIT-clause-named g c =
    let at = goal.at.abort-requires-then-start-ge-CLOCK_LIMIT-clause-named g c in
    sym c.in_default.ensures.revalidates.stays.named ∙ sym
    (ap (λ (y : View). y.gate.algorithm) (asked g at.After-limit-clock).2)

pub returns-then-start-ge-CLOCK_LIMIT-clause-commits : goal.returns-then-start-ge-CLOCK_LIMIT-clause-commits
returns-then-start-ge-CLOCK_LIMIT-clause-commits g c =
    let at = goal.at.returns-then-start-ge-CLOCK_LIMIT-clause-commits g c in
    let r = c.in_default.ensures.revalidates in
    let b = c.abort-then-start-ge-CLOCK_LIMIT.ensures in
    let z = c.abort-then-start-ge-CLOCK_LIMIT.new.seat.me.0.view in
    let P = λ (p : Own). answers.Commits (g.K.MemRule.good c.args.stm.now.rule) c.args.stm.now.config c.args.caller
    (commits.ClockFull c.limit-clock.result) (known_of c.args.seat.now.me.0.view (own_of c.args.local.now))
    (known_of z p) in
    subst (λ (q : Local). P (own_of q)) (sym b.idle) (laws.own-moved c.args.local.now c.revalidate.new.local r.local P
    (laws.full-call c.requires.attempt r (own_of c.args.local.now) _ _ z (search rules) (asked g at.After-limit-clock)
    b.aborts))

pub returns-then-start-ge-CLOCK_LIMIT-clause-stands : goal.returns-then-start-ge-CLOCK_LIMIT-clause-stands
returns-then-start-ge-CLOCK_LIMIT-clause-stands g c =
    let b = c.abort-then-start-ge-CLOCK_LIMIT.ensures in
    subst (λ (q : Local). Stands (g.K.MemRule.good c.args.stm.now.rule) c.args.stm.now.config c.args.caller q
    c.abort-then-start-ge-CLOCK_LIMIT.new.seat.me.0.view) (sym b.idle)
    (laws.ended-stands _ _ _ (record c.revalidate.new.local { committing = false }) _
    (ready g (goal.at.returns-then-start-ge-CLOCK_LIMIT-clause-stands g c).In_default).lengths b.aborts.outside)

pub commit_placed-now-requires-clause-view : goal.commit_placed-now-requires-clause-view
commit_placed-now-requires-clause-view g c =
    let o = own_of c.args.local.now in
    laws.may-enter (ready g (goal.at.commit_placed-now-requires-clause-view g c).In_default) o (search rules)
    (laws.keeps-ready c.requires.attempt c.in_default.ensures.revalidates o c.requires.keeps)

pub returns-then-now-start-clause-commits : goal.returns-then-now-start-clause-commits
returns-then-now-start-clause-commits g c =
    let at = goal.at.returns-then-now-start-clause-commits g c in
    let r = c.in_default.ensures.revalidates in
    let m = c.revalidate.new.local in
    let now = c.commit_placed-now.result in
    laws.own-again c.args.local.now m r.local (λ p. answers.Commits (g.K.MemRule.good c.args.stm.now.rule)
    c.args.stm.now.config c.args.caller (commits.Again 0 m.start now)
    (known_of c.args.seat.now.me.0.view (own_of c.args.local.now))
    (known_of c.commit_placed-now.new.seat.me.0.view p))
    (laws.tells-again c.requires.attempt r now _ (search rules) (tried g at.After-commit_placed-now) c.requires.caller
    (own_of c.args.local.now) refl)

pub returns-then-now-start-clause-stands : goal.returns-then-now-start-clause-stands
returns-then-now-start-clause-stands g c =
    let at = goal.at.returns-then-now-start-clause-stands g c in
    laws.stands-again c.requires.attempt c.in_default.ensures.revalidates c.commit_placed-now.result _ (search rules)
    (tried g at.After-commit_placed-now)

pub release_all-requires-clause-view : goal.release_all-requires-clause-view
release_all-requires-clause-view g c =
    let at = goal.at.release_all-requires-clause-view g c in
    laws.may-release (ready g at.In_default) c.commit_placed-now.result _ (search rules)
    (tried g at.After-commit_placed-now)

pub leave-requires-clause-view : goal.leave-requires-clause-view
leave-requires-clause-view g c =
    let at = goal.at.leave-requires-clause-view g c in
    laws.may-end (ready g at.In_default) c.commit_placed-now.result _ (search rules)
    (tried g at.After-commit_placed-now) _ c.release_all.ensures.releases

pub leave-requires-clause-holds : goal.leave-requires-clause-holds
leave-requires-clause-holds g c =
    let at = goal.at.leave-requires-clause-holds g c in
    let ready = ready g at.In_default in
    ready.holds ∙ sym (ap (λ (k : GateView). k.holds) (laws.gate-end ready c.commit_placed-now.result _ (search rules)
    (tried g at.After-commit_placed-now) _ c.release_all.ensures.releases))

pub leave-requires-clause-named : goal.leave-requires-clause-named
leave-requires-clause-named g c =
    let at = goal.at.leave-requires-clause-named g c in
    let ready = ready g at.In_default in
    sym ready.inside.named ∙ sym (ap (λ (k : GateView). k.algorithm)
    (laws.gate-end ready c.commit_placed-now.result _ (search rules) (tried g at.After-commit_placed-now) _
    c.release_all.ensures.releases))

pub returns-clause-commits : goal.returns-clause-commits
returns-clause-commits g c =
    let at = goal.at.returns-clause-commits g c in
    let r = c.in_default.ensures.revalidates in
    let m = c.revalidate.new.local in
    let z = c.leave.new.seat.me.0.view in
    let P = λ (p : Own). answers.CommitsAt (g.K.MemRule.good c.args.stm.now.rule) c.args.stm.now.config c.args.caller
    (m.start + 1) (known_of c.args.seat.now.me.0.view (own_of c.args.local.now)) (known_of z p) in
    subst (λ (q : Local). P (own_of q)) (sym c.leave.ensures.idle) (laws.own-moved c.args.local.now m r.local P
    (laws.committed-call c.requires.attempt r (own_of c.args.local.now) c.commit_placed-now.result _ _ z (search rules)
    (tried g at.After-commit_placed-now) c.release_all.ensures.releases
    (ap (λ (k : SeatView g.row.K.Denot). k.view) c.leave.ensures.left)))

pub returns-clause-stands : goal.returns-clause-stands
returns-clause-stands g c =
    subst (λ (q : Local). Stands (g.K.MemRule.good c.args.stm.now.rule) c.args.stm.now.config c.args.caller q
    c.leave.new.seat.me.0.view) (sym c.leave.ensures.idle)
    (laws.ended-stands _ _ _ (record c.revalidate.new.local { committing = false }) _
    (ready g (goal.at.returns-clause-stands g c).In_default).lengths c.leave.ensures.outside)

pub returns-in-Err-clause-written : goal.returns-in-Err-clause-written
returns-in-Err-clause-written g c = ap (λ (q : Local). q.writes) c.abort.ensures.idle
    ∙ ap (λ (q : Local). q.writes) c.in-Err.ensures.revalidates.local

pub returns-then-start-ge-CLOCK_LIMIT-clause-written : goal.returns-then-start-ge-CLOCK_LIMIT-clause-written
returns-then-start-ge-CLOCK_LIMIT-clause-written g c =
    ap (λ (q : Local). q.writes) c.abort-then-start-ge-CLOCK_LIMIT.ensures.idle
    ∙ ap (λ (q : Local). q.writes) c.in_default.ensures.revalidates.local

pub returns-then-now-start-clause-written : goal.returns-then-now-start-clause-written
returns-then-now-start-clause-written g c = ap (λ (q : Local). q.writes) c.in_default.ensures.revalidates.local

pub returns-clause-written : goal.returns-clause-written
returns-clause-written g c = ap (λ (q : Local). q.writes) c.leave.ensures.idle
    ∙ ap (λ (q : Local). q.writes) c.in_default.ensures.revalidates.local
