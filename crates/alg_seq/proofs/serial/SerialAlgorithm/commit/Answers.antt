use Rattle.std.proofs.Common.{subst, sym, ap, ◌≡◌, ◌+◌, ◌∙◌, true, rules, length, arith}
use Rattle.rule_base.specs.StepKinds.{Nothing}
use Rattle.stm_model.specs.Algorithms.{takes_lock}
use Rattle.stm_rule.specs.declared.local.Local.{Local}
use Rattle.stm_rule.specs.Attempts.{own_of}
use Rattle.stm_rule.specs.Callers.{Handle, handle_of}
use Rattle.stm_rule.specs.Kept.{good_of}
use Rattle.stm_rule.proofs.StandLemmas.{tells-of}
use Rattle.stm_gate.specs.Knowing.{known}
use Rattle.stm_gate.proofs.Standing.{runs-of, who-of}
use Rattle.rule_seq.specs.CglSteps.{free_lock, store_clock, Commits}
use Rattle.stm_answers.specs.declared.answers.Commit.TheVariants.{Committed, ReadOnly}
use Rattle.stm_answers.specs.Answers.{KeepsRule}
use Rattle.stm_answers.specs.Answers as answers
use Rattle.stm_answers.specs.CallerState.{known_of}
use Rattle.rule_base.specs.declared.seats.SeatView.{SeatView}
use Rattle.rule_base.specs.declared.views.View.{View}
use Rattle.alg_seq.proofs.CountingLaws.{takes-left}
use Rattle.alg_seq.proofs.Locked.{locked, tells-ended, tells-committed, may-commit}
use Rattle.stm_gate.proofs.Told.{told}
use Rattle.alg_seq.proofs.serial.SerialAlgorithm.commit.Goals as goal

pub returns-then-not-desc-clause-commits : goal.returns-then-not-desc-clause-commits
returns-then-not-desc-clause-commits g c =
    let good = g.K.MemRule.good c.args.stm.now.rule in
    let o = own_of c.desc.inside.local in
    told (λ n v w. answers.Commits good c.args.stm.now.config n (ReadOnly c.desc.inside.local.start) v w) (handle_of c.desc.inside.seat o)
    c.args.desc.now c.desc.inside.number c.leave.new.seat.me.0 c.leave.new.local c.desc.view_is
    (ap (λ (y : SeatView g.row.K.Denot). y.who) c.leave.ensures.left
    ∙ who-of free_lock Nothing c.desc.inside.seat.me.0 0 c.free_lock.new.seat.me.0 c.free_lock.ensures.step) c.desc.invariant.0.named
    (subst (λ (m : Local).
    answers.Commits good c.args.stm.now.config c.desc.inside.number (ReadOnly c.desc.inside.local.start)
    (known_of c.desc.inside.seat.me.0.view o) (known_of c.leave.new.seat.me.0.view (own_of m))) (sym c.leave.ensures.idle)
    (subst (λ (y : View).
    answers.Commits good c.args.stm.now.config c.desc.inside.number (ReadOnly c.desc.inside.local.start)
    (known_of c.desc.inside.seat.me.0.view o) (known_of y o)) (sym (ap (λ (y : SeatView g.row.K.Denot). y.view) c.leave.ensures.left))
    (tells-ended good c.args.stm.now.config c.desc.inside.number c.desc.inside.local c.desc.inside.seat.me.0.view
    c.free_lock.new.seat.me.0.view o
    (runs-of g.K.MemRule.good c.args.stm.now.config c.args.stm.now.rule (handle_of c.desc.inside.seat o) c.args.desc.now
    c.desc.inside.number c.desc.inside.local c.desc.view_is c.requires.stm.config c.requires.stm.rule c.requires.running c.desc.invariant.1)
    (subst (λ (h : Handle g.row.K.Denot). takes_lock (known h).alg ≡ true) (sym c.desc.view_is) (ap takes_lock c.requires.algorithm))
    (search rules) (tells-of free_lock Nothing _ 0 _ c.free_lock.ensures.step))))

pub store_clock-requires-clause-view : goal.store_clock-requires-clause-view
store_clock-requires-clause-view g c =
    may-commit (g.K.MemRule.good c.args.stm.now.rule) c.args.stm.now.config c.desc.inside.number c.desc.inside.local
    c.desc.inside.seat.me.0.view (own_of c.desc.inside.local)
    (runs-of g.K.MemRule.good c.args.stm.now.config c.args.stm.now.rule (handle_of c.desc.inside.seat (own_of c.desc.inside.local))
    c.args.desc.now c.desc.inside.number c.desc.inside.local c.desc.view_is c.requires.stm.config c.requires.stm.rule c.requires.running
    c.desc.invariant.1)
    (subst (λ (h : Handle g.row.K.Denot). takes_lock (known h).alg ≡ true) (sym c.desc.view_is) (ap takes_lock c.requires.algorithm))
    (sym c.desc.invariant.1.holds) (search rules)
    (subst
    (λ (h : Handle g.row.K.Denot). KeepsRule (g.K.MemRule.good c.args.stm.now.rule) c.args.stm.now.config c.desc.inside.number (known h))
    (sym c.desc.view_is) c.requires.keeps)

pub returns-clause-commits : goal.returns-clause-commits
returns-clause-commits g c =
    let good = g.K.MemRule.good c.args.stm.now.rule in
    let o = own_of c.desc.inside.local in
    let shows = Commits (good_of g.K.MemRule.good c.args.stm.now.config c.args.stm.now.rule) c.args.stm.now.config c.desc.inside.number (c.desc.inside.local.start + 1) in
    told (λ n v w. answers.Commits good c.args.stm.now.config n (Committed (c.desc.inside.local.start + 1)) v w)
    (handle_of c.desc.inside.seat o) c.args.desc.now c.desc.inside.number c.leave-2.new.seat.me.0 c.leave-2.new.local c.desc.view_is
    (ap (λ (y : SeatView g.row.K.Denot). y.who) c.leave-2.ensures.left
    ∙ (who-of free_lock Nothing c.store_clock.new.seat.me.0 0 c.free_lock-2.new.seat.me.0 c.free_lock-2.ensures.step
    ∙ who-of (store_clock c.desc.inside.number (c.desc.inside.local.start + 1)) shows c.desc.inside.seat.me.0
    (c.desc.inside.local.start + 1) c.store_clock.new.seat.me.0 c.store_clock.ensures.step)) c.desc.invariant.0.named
    (subst (λ (m : Local).
    answers.Commits good c.args.stm.now.config c.desc.inside.number (Committed (c.desc.inside.local.start + 1))
    (known_of c.desc.inside.seat.me.0.view o) (known_of c.leave-2.new.seat.me.0.view (own_of m))) (sym c.leave-2.ensures.idle)
    (subst (λ (y : View).
    answers.Commits good c.args.stm.now.config c.desc.inside.number (Committed (c.desc.inside.local.start + 1))
    (known_of c.desc.inside.seat.me.0.view o) (known_of y o)) (sym (ap (λ (y : SeatView g.row.K.Denot). y.view) c.leave-2.ensures.left))
    (tells-committed good c.args.stm.now.config c.desc.inside.number c.desc.inside.local c.desc.inside.seat.me.0.view
    c.store_clock.new.seat.me.0.view c.free_lock-2.new.seat.me.0.view o
    (runs-of g.K.MemRule.good c.args.stm.now.config c.args.stm.now.rule (handle_of c.desc.inside.seat o) c.args.desc.now
    c.desc.inside.number c.desc.inside.local c.desc.view_is c.requires.stm.config c.requires.stm.rule c.requires.running
    c.desc.invariant.1)
    (subst (λ (h : Handle g.row.K.Denot). takes_lock (known h).alg ≡ true) (sym c.desc.view_is) (ap takes_lock c.requires.algorithm))
    (search rules)
    (tells-of (store_clock c.desc.inside.number (c.desc.inside.local.start + 1)) shows c.desc.inside.seat.me.0
    (c.desc.inside.local.start + 1) c.store_clock.new.seat.me.0 c.store_clock.ensures.step)
    (tells-of free_lock Nothing _ 0 _ c.free_lock-2.ensures.step))))

pub returns-then-not-desc-clause-steps : goal.returns-then-not-desc-clause-steps
returns-then-not-desc-clause-steps g c =
    let first = ap (λ (h : Handle g.row.K.Denot). length (known h).step_trace) c.desc.view_is in
    let freed = ap (λ (y : SeatView g.row.K.Denot). length y.view.steps.step_trace) c.free_lock.ensures.step.3 in
    let last = ap (λ (y : SeatView g.row.K.Denot). length y.view.steps.step_trace) c.leave.ensures.left in
    let one = takes-left c.desc.inside.number c.free_lock.new.seat.me.0.view
    (ap (λ (y : SeatView g.row.K.Denot). y.view.gate.holds) c.free_lock.ensures.step.3
    ∙ (sym c.desc.invariant.1.holds
    ∙ (locked _ _ _ _ _
    (subst (λ (h : Handle g.row.K.Denot). takes_lock (known h).alg ≡ true) (sym c.desc.view_is) (ap takes_lock c.requires.algorithm))
    (runs-of g.K.MemRule.good _ _ _ _ _ _ c.desc.view_is c.requires.stm.config c.requires.stm.rule c.requires.running
    c.desc.invariant.1)).reopened)) in
    omega arith

pub returns-clause-steps : goal.returns-clause-steps
returns-clause-steps g c =
    let first = ap (λ (h : Handle g.row.K.Denot). length (known h).step_trace) c.desc.view_is in
    let stored = ap (λ (y : SeatView g.row.K.Denot). length y.view.steps.step_trace) c.store_clock.ensures.step.3 in
    let freed = ap (λ (y : SeatView g.row.K.Denot). length y.view.steps.step_trace) c.free_lock-2.ensures.step.3 in
    let last = ap (λ (y : SeatView g.row.K.Denot). length y.view.steps.step_trace) c.leave-2.ensures.left in
    let one = takes-left c.desc.inside.number c.free_lock-2.new.seat.me.0.view
    (ap (λ (y : SeatView g.row.K.Denot). y.view.gate.holds) c.free_lock-2.ensures.step.3
    ∙ (ap (λ (y : SeatView g.row.K.Denot). y.view.gate.holds) c.store_clock.ensures.step.3
    ∙ (sym c.desc.invariant.1.holds
    ∙ (locked _ _ _ _ _
    (subst (λ (h : Handle g.row.K.Denot). takes_lock (known h).alg ≡ true) (sym c.desc.view_is) (ap takes_lock c.requires.algorithm))
    (runs-of g.K.MemRule.good _ _ _ _ _ _ c.desc.view_is c.requires.stm.config c.requires.stm.rule c.requires.running
    c.desc.invariant.1)).reopened))) in
    omega arith
