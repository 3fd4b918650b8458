use Rattle.std.proofs.Common.{◌≡◌, ◌≤◌, ◌+◌, subst, sym, ap, refl, true, false, rules, ◌∙◌, length, arith}
use Rattle.rule_base.specs.declared.seats.SeatView.{SeatView}
use Rattle.rule_base.specs.Own.{Own}
use Rattle.rule_base.specs.StepKinds.{Tells}
use Rattle.rule_orec.specs.OrecSteps.{orec_limit, orec_commit}
use Rattle.stm_rule.specs.declared.local.Local.{Local}
use Rattle.stm_rule.specs.Attempts.{own_of, Stands}
use Rattle.stm_rule.specs.Kept.{good_of}
use Rattle.stm_rule.specs.RecordsKept.{cells_of}
use Rattle.alg_orec.specs.RecordFindings.{FindsClock, FindsCommit}
use Rattle.stm_answers.specs.declared.answers.Commit.TheVariants as commits
use Rattle.stm_answers.specs.Answers as answers
use Rattle.stm_answers.specs.CallerState.{known_of}
use Rattle.alg_orec.specs.Committing.{CanCommit}
use Rattle.alg_orec.proofs.Lazy.LazyEntryLaws as laws
use Rattle.alg_orec.proofs.Proving.{own-ready, own-stopped, lazy-of}
use Rattle.alg_orec.proofs.lazy_committing.commit_writes.Goals.{In_default, After-limit-clock, After-commit-now}
use Rattle.alg_orec.proofs.lazy_committing.commit_writes.Goals as goal

-- the attempt where it holds the records of what it wrote, and its reads are valid
ready : (g : _) (c : In_default g) → CanCommit (g.K.MemRule.good c.args.stm.now.rule) c.args.stm.now.config
    c.args.caller (record c.prepare.new.local { committing = true }) c.prepare.new.seat.me.0.view
ready g c = laws.can-ready _ _ _ c.requires.caller _ _ c.requires.attempt (own_of c.args.local.now) refl _ _
    c.in_default.ensures.prepares

buffered : (g : _) (c : In_default g) → cells_of c.args.local.now.writes.items ≡ cells_of
    c.prepare.new.local.writes.items
buffered g c = ap (λ (q : Local). cells_of q.writes.items) (sym c.in_default.ensures.prepares.local)

-- it holds no more records than it wrote words
few : (g : _) (c : In_default g) → length c.prepare.new.local.locks.items ≤ c.args.local.now.writes.len
few g c = let r = ready g c in
    let most = (lazy-of _ _ _ (record c.prepare.new.local { committing = true }) _ r.inside r.lazy r.plain).few in
    let words = ap (λ (x : Local). x.writes.len) c.in_default.ensures.prepares.local in
    omega arith

-- where it asked for the clock
asked : (g : _) (c : After-limit-clock g) → Tells orec_limit (FindsClock c.args.stm.now.config)
    c.prepare.new.seat.me.0.view c.limit-clock.result c.limit-clock.new.seat.me.0.view
asked g c = let h = c.limit-clock.ensures.step in (h.0, h.1, ap (λ (x : SeatView g.row.K.Denot). x.view) h.3)

-- and where it tried to make its entry
tried : (g : _) (c : After-commit-now g) → let ws = cells_of c.prepare.new.local.writes.items in
    Tells (orec_commit c.args.caller c.prepare.new.local.start ws ws)
    (FindsCommit (good_of g.K.MemRule.good c.args.stm.now.config c.args.stm.now.rule) c.args.stm.now.config
    c.args.caller c.prepare.new.local.start ws)
    c.prepare.new.seat.me.0.view c.commit-now.result c.commit-now.new.seat.me.0.view
tried g c = let h = c.commit-now.ensures.step in (h.0, h.1, ap (λ (x : SeatView g.row.K.Denot). x.view) h.3)

pub abort-requires-clause-view : goal.abort-requires-clause-view
abort-requires-clause-view g c = c.in-Err.ensures.prepares.can

pub abort-requires-clause-holds : goal.abort-requires-clause-holds
abort-requires-clause-holds g c = let s = c.in-Err.ensures.prepares in ap (λ (q : Local). q.holds) s.local
    ∙ (c.requires.attempt.holds ∙ sym (ap (λ h. h.holds) s.gate))

pub abort-requires-clause-named : goal.abort-requires-clause-named
abort-requires-clause-named g c = let s = c.in-Err.ensures.prepares in ap (λ (q : Local). q.algorithm) s.local
    ∙ (sym c.requires.attempt.inside.named ∙ sym (ap (λ h. h.algorithm) s.gate))

pub returns-in-Err-clause-commits : goal.returns-in-Err-clause-commits
returns-in-Err-clause-commits g c =
    let l = c.args.local.now in
    let z = c.abort.new.seat.me.0.view in
    let s = c.in-Err.ensures.prepares in
    let P = λ (p : Own). answers.Commits (g.K.MemRule.good c.args.stm.now.rule) c.args.stm.now.config c.args.caller
    (commits.Conflict c.in-Err.cause) (known_of c.args.seat.now.me.0.view (own_of l)) (known_of z p) in
    subst (λ (q : Local). P (own_of q)) (sym c.abort.ensures.idle) (own-stopped l c.prepare.new.local s.local P
    (laws.tells-stopped _ _ _ c.requires.caller _ _ c.requires.attempt (own_of l) refl refl c.in-Err.cause _ _ z s
    c.abort.ensures.gives_up))

pub returns-in-Err-clause-stands : goal.returns-in-Err-clause-stands
returns-in-Err-clause-stands g c =
    let m = c.prepare.new.local in
    let s = c.in-Err.ensures.prepares in
    subst (λ (q : Local). Stands (g.K.MemRule.good c.args.stm.now.rule) c.args.stm.now.config c.args.caller q
    c.abort.new.seat.me.0.view) (sym c.abort.ensures.idle)
    (laws.ended-stands _ _ _ (record m { committing = false }) _
    (laws.stopped-lengths c.args.local.now m s.local s.len c.requires.attempt.lengths)
    c.abort.ensures.gives_up.outside)

pub limit-clock-requires-clause-view : goal.limit-clock-requires-clause-view
limit-clock-requires-clause-view g c =
    let a = (goal.at.limit-clock-requires-clause-view g c).In_default in
    laws.has-orec _ _ _ c.requires.caller _ _ (ready g a) (own_of c.args.local.now) (buffered g a)

pub abort-requires-then-start-ge-CLOCK_LIMIT-clause-view : goal.abort-requires-then-start-ge-CLOCK_LIMIT-clause-view
abort-requires-then-start-ge-CLOCK_LIMIT-clause-view g c =
    let at = goal.at.abort-requires-then-start-ge-CLOCK_LIMIT-clause-view g c in
    laws.may-roll _ _ _ c.requires.caller _ _ (ready g at.In_default) (own_of c.args.local.now)
    (buffered g at.In_default) c.prepare.new.local.committing _ _ (asked g at.After-limit-clock)

pub returns-then-start-ge-CLOCK_LIMIT-clause-commits : goal.returns-then-start-ge-CLOCK_LIMIT-clause-commits
returns-then-start-ge-CLOCK_LIMIT-clause-commits g c =
    let at = goal.at.returns-then-start-ge-CLOCK_LIMIT-clause-commits g c in
    let r = c.in_default.ensures.prepares in
    let b = c.abort-then-start-ge-CLOCK_LIMIT.ensures in
    let z = c.abort-then-start-ge-CLOCK_LIMIT.new.seat.me.0.view in
    let P = λ (p : Own). answers.Commits (g.K.MemRule.good c.args.stm.now.rule) c.args.stm.now.config c.args.caller
    (commits.ClockFull c.limit-clock.result) (known_of c.args.seat.now.me.0.view (own_of c.args.local.now))
    (known_of z p) in
    subst (λ (q : Local). P (own_of q)) (sym b.idle) (own-ready c.args.local.now c.prepare.new.local r.local P
    (laws.full-call _ _ _ c.requires.caller _ _ c.requires.attempt (own_of c.args.local.now) refl _ _ r _ _ z
    (search rules) (asked g at.After-limit-clock) b.gives_up))

pub returns-then-start-ge-CLOCK_LIMIT-clause-stands : goal.returns-then-start-ge-CLOCK_LIMIT-clause-stands
returns-then-start-ge-CLOCK_LIMIT-clause-stands g c =
    let b = c.abort-then-start-ge-CLOCK_LIMIT.ensures in
    subst (λ (q : Local). Stands (g.K.MemRule.good c.args.stm.now.rule) c.args.stm.now.config c.args.caller q
    c.abort-then-start-ge-CLOCK_LIMIT.new.seat.me.0.view) (sym b.idle)
    (laws.ended-stands _ _ _ (record c.prepare.new.local { committing = false }) _
    (ready g (goal.at.returns-then-start-ge-CLOCK_LIMIT-clause-stands g c).In_default).lengths b.gives_up.outside)

pub commit-now-requires-clause-view : goal.commit-now-requires-clause-view
commit-now-requires-clause-view g c =
    let a = (goal.at.commit-now-requires-clause-view g c).In_default in
    let o = own_of c.args.local.now in
    laws.may-enter _ _ _ c.requires.caller _ _ (ready g a) o (buffered g a) refl (search rules)
    (laws.keeps-ready _ _ _ c.requires.caller _ _ c.requires.attempt o refl _ _ c.in_default.ensures.prepares
    c.requires.keeps)

pub commit-now-requires-clause-spared : goal.commit-now-requires-clause-spared
commit-now-requires-clause-spared g c =
    let a = (goal.at.commit-now-requires-clause-spared g c).In_default in
    laws.are-spared _ _ _ c.requires.caller _ _ (ready g a) (own_of c.args.local.now) (buffered g a)

pub returns-then-now-start-clause-commits : goal.returns-then-now-start-clause-commits
returns-then-now-start-clause-commits g c =
    let l = c.args.local.now in
    let m = c.prepare.new.local in
    let now = c.commit-now.result in
    let r = c.in_default.ensures.prepares in
    own-ready l m r.local (λ (p : Own). answers.Commits (g.K.MemRule.good c.args.stm.now.rule) c.args.stm.now.config
    c.args.caller (commits.Again 0 m.start now) (known_of c.args.seat.now.me.0.view (own_of l))
    (known_of c.commit-now.new.seat.me.0.view (record p { committing = true })))
    (laws.tells-again _ _ _ c.requires.caller _ _ c.requires.attempt (own_of l) refl _ _ r now _ (search rules)
    (tried g (goal.at.returns-then-now-start-clause-commits g c).After-commit-now) refl)

pub returns-then-now-start-clause-stands : goal.returns-then-now-start-clause-stands
returns-then-now-start-clause-stands g c =
    laws.stands-again _ _ _ c.requires.caller _ _ c.requires.attempt (own_of c.args.local.now) refl _ _
    c.in_default.ensures.prepares c.commit-now.result _ (search rules)
    (tried g (goal.at.returns-then-now-start-clause-stands g c).After-commit-now)

pub finish-requires-clause-view : goal.finish-requires-clause-view
finish-requires-clause-view g c =
    let at = goal.at.finish-requires-clause-view g c in
    laws.may-finish _ _ _ c.requires.caller _ _ (ready g at.In_default) (own_of c.args.local.now)
    (buffered g at.In_default) c.prepare.new.local.committing c.commit-now.result _ (search rules)
    (tried g at.After-commit-now)

pub returns-clause-commits : goal.returns-clause-commits
returns-clause-commits g c =
    let at = goal.at.returns-clause-commits g c in
    let r = c.in_default.ensures.prepares in
    let z = c.finish.new.seat.me.0.view in
    let P = λ (p : Own). answers.CommitsAt (g.K.MemRule.good c.args.stm.now.rule) c.args.stm.now.config c.args.caller
    (c.prepare.new.local.start + 1) (known_of c.args.seat.now.me.0.view (own_of c.args.local.now)) (known_of z p) in
    subst (λ (q : Local). P (own_of q)) (sym c.finish.ensures.idle)
    (own-ready c.args.local.now c.prepare.new.local r.local P
    (laws.committed-call _ _ _ c.requires.caller _ _ c.requires.attempt (own_of c.args.local.now) refl _ _ r
    c.commit-now.result _ z (search rules) (tried g at.After-commit-now) c.finish.ensures.finishes))

pub returns-clause-stands : goal.returns-clause-stands
returns-clause-stands g c =
    let b = c.finish.ensures in
    subst (λ (q : Local). Stands (g.K.MemRule.good c.args.stm.now.rule) c.args.stm.now.config c.args.caller q
    c.finish.new.seat.me.0.view) (sym b.idle)
    (laws.ended-stands _ _ _ (record c.prepare.new.local { committing = false }) _
    (ready g (goal.at.returns-clause-stands g c).In_default).lengths b.finishes.outside)

pub returns-in-Err-clause-steps : goal.returns-in-Err-clause-steps
returns-in-Err-clause-steps g c =
    let few = c.in-Err.ensures.prepares.few in
    let prepared = c.prepare.ensures.steps in
    let back = c.abort.ensures.steps in
    omega arith

pub returns-then-start-ge-CLOCK_LIMIT-clause-steps : goal.returns-then-start-ge-CLOCK_LIMIT-clause-steps
returns-then-start-ge-CLOCK_LIMIT-clause-steps g c =
    let held = few g (goal.at.returns-then-start-ge-CLOCK_LIMIT-clause-steps g c).In_default in
    let prepared = c.prepare.ensures.steps in
    let looked = ap (λ (y : SeatView g.row.K.Denot). length y.view.steps.step_trace) c.limit-clock.ensures.step.3 in
    let back = c.abort-then-start-ge-CLOCK_LIMIT.ensures.steps in
    omega arith

pub returns-clause-steps : goal.returns-clause-steps
returns-clause-steps g c =
    let held = few g (goal.at.returns-clause-steps g c).In_default in
    let words = ap (λ (x : Local). x.writes.len) c.in_default.ensures.prepares.local in
    let prepared = c.prepare.ensures.steps in
    let entered = ap (λ (y : SeatView g.row.K.Denot). length y.view.steps.step_trace) c.commit-now.ensures.step.3 in
    let finished = c.finish.ensures.steps in
    grind (arith, held, words, prepared, entered, finished)

pub returns-in-Err-clause-written : goal.returns-in-Err-clause-written
returns-in-Err-clause-written g c = ap (λ (q : Local). q.writes) c.abort.ensures.idle
    ∙ ap (λ (q : Local). q.writes) c.in-Err.ensures.prepares.local

pub returns-then-start-ge-CLOCK_LIMIT-clause-written : goal.returns-then-start-ge-CLOCK_LIMIT-clause-written
returns-then-start-ge-CLOCK_LIMIT-clause-written g c =
    ap (λ (q : Local). q.writes) c.abort-then-start-ge-CLOCK_LIMIT.ensures.idle
    ∙ ap (λ (q : Local). q.writes) c.in_default.ensures.prepares.local

pub returns-then-now-start-clause-written : goal.returns-then-now-start-clause-written
returns-then-now-start-clause-written g c = ap (λ (q : Local). q.writes) c.in_default.ensures.prepares.local

pub returns-clause-written : goal.returns-clause-written
returns-clause-written g c = ap (λ (q : Local). q.writes) c.finish.ensures.idle
    ∙ ap (λ (q : Local). q.writes) c.in_default.ensures.prepares.local
