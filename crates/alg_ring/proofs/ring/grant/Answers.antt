use Rattle.std.proofs.Common.{ℕ, subst, sym, ap, refl, true, rules, ◌∙◌}
use Rattle.rule_base.specs.declared.seats.SeatView.{SeatView}
use Rattle.rule_base.specs.InstallSteps.{settle}
use Rattle.stm_rule.specs.declared.local.Local.{Local}
use Rattle.stm_rule.specs.Attempts.{own_of}
use Rattle.stm_rule.specs.Findings.{FindsWithin}
use Rattle.stm_rule.proofs.StandLemmas.{tells-of}
use Rattle.stm_answers.specs.declared.answers.Irrev.TheVariants as irrevs
use Rattle.stm_answers.specs.CallerState.{CallerState, known_of}
use Rattle.stm_gate.specs.Granting.{Grants}
use Rattle.stm_gate.proofs.Standing.{who-of}
use Rattle.alg_ring.proofs.Opening.{opened, stands-after}
use Rattle.alg_ring.proofs.Opening as opening
use Rattle.alg_ring.proofs.Granting.{can-grant}
use Rattle.alg_ring.proofs.Granting as laws
use Rattle.alg_ring.proofs.Running.{inside}
use Rattle.alg_ring.proofs.ring.grant.Goals as goal

pub settle-clock-requires-clause-view : goal.settle-clock-requires-clause-view
settle-clock-requires-clause-view g c =
    laws.may-settle _ _ _ _ _
    (can-grant g.K.MemRule.good c.args.stm.now
    (opened g.K.MemRule.good c.args.stm.now c.desc.inside.number c.desc.inside.local c.desc.view_is refl c.desc.invariant.0.named
    c.desc.invariant.0.low c.desc.invariant.1 c.requires.stm) c.requires.running c.requires.algorithm c.requires.revocable c.requires.alone)

pub leave-requires-clause-view : goal.leave-requires-clause-view
leave-requires-clause-view g c =
    laws.may-leave-full _ _ _ _ _
    (can-grant g.K.MemRule.good c.args.stm.now
    (opened g.K.MemRule.good c.args.stm.now c.desc.inside.number c.desc.inside.local c.desc.view_is refl c.desc.invariant.0.named
    c.desc.invariant.0.low c.desc.invariant.1 c.requires.stm) c.requires.running c.requires.algorithm c.requires.revocable c.requires.alone)
    c.settle-clock.result c.settle-clock.new.seat.me.0.view (tells-of settle FindsWithin _ _ _ c.settle-clock.ensures.step)

pub returns-then-clock-ge-CLOCK_LIMIT-clause-grants : goal.returns-then-clock-ge-CLOCK_LIMIT-clause-grants
returns-then-clock-ge-CLOCK_LIMIT-clause-grants g c =
    let a = opened g.K.MemRule.good c.args.stm.now c.desc.inside.number c.desc.inside.local c.desc.view_is refl c.desc.invariant.0.named c.desc.invariant.0.low c.desc.invariant.1 c.requires.stm in
    let P = λ (n : ℕ) (v w : CallerState). Grants (g.K.MemRule.good c.args.stm.now.rule) c.args.stm.now.config n (irrevs.ClockFull c.settle-clock.result) v w in
    opening.tells-of g.K.MemRule.good c.args.stm.now a P (known_of c.leave.new.seat.me.0.view (own_of c.leave.new.local))
    (subst (λ (m : Local).
    P c.desc.inside.number (known_of c.desc.inside.seat.me.0.view (own_of c.desc.inside.local))
    (known_of c.leave.new.seat.me.0.view (own_of m))) (sym c.leave.ensures.idle)
    (laws.tells-full _ _ _ _ _
    (can-grant g.K.MemRule.good c.args.stm.now a c.requires.running c.requires.algorithm c.requires.revocable c.requires.alone)
    c.settle-clock.result c.settle-clock.new.seat.me.0.view (tells-of settle FindsWithin _ _ _ c.settle-clock.ensures.step) (search rules)
    c.leave.new.seat.me.0.view (ap (λ q. q.view) c.leave.ensures.left)))

pub check_to_grant-requires-clause-view : goal.check_to_grant-requires-clause-view
check_to_grant-requires-clause-view g c =
    laws.may-check _ _ _ _ _
    (can-grant g.K.MemRule.good c.args.stm.now
    (opened g.K.MemRule.good c.args.stm.now c.desc.inside.number c.desc.inside.local c.desc.view_is refl c.desc.invariant.0.named
    c.desc.invariant.0.low c.desc.invariant.1 c.requires.stm) c.requires.running c.requires.algorithm c.requires.revocable c.requires.alone)
    c.settle-clock.result c.settle-clock.new.seat.me.0.view (tells-of settle FindsWithin _ _ _ c.settle-clock.ensures.step) (search rules)

pub leave-requires-in-Err-clause-view : goal.leave-requires-in-Err-clause-view
leave-requires-in-Err-clause-view g c =
    laws.may-leave-failed _ _ _ _ _
    (can-grant g.K.MemRule.good c.args.stm.now
    (opened g.K.MemRule.good c.args.stm.now c.desc.inside.number c.desc.inside.local c.desc.view_is refl c.desc.invariant.0.named
    c.desc.invariant.0.low c.desc.invariant.1 c.requires.stm) c.requires.running c.requires.algorithm c.requires.revocable c.requires.alone)
    c.settle-clock.result c.settle-clock.new.seat.me.0.view (tells-of settle FindsWithin _ _ _ c.settle-clock.ensures.step) c.in-Err.cause
    c.check_to_grant.new.seat.me.0.view c.in-Err.ensures.checks

pub leave-requires-in-Err-clause-holds : goal.leave-requires-in-Err-clause-holds
leave-requires-in-Err-clause-holds g c =
    let a = opened g.K.MemRule.good c.args.stm.now c.desc.inside.number c.desc.inside.local c.desc.view_is refl c.desc.invariant.0.named c.desc.invariant.0.low c.desc.invariant.1 c.requires.stm in
    a.stands.holds
    ∙ sym (laws.holds-failed _ _ _ _ _
    (can-grant g.K.MemRule.good c.args.stm.now a c.requires.running c.requires.algorithm c.requires.revocable c.requires.alone)
    c.settle-clock.result c.settle-clock.new.seat.me.0.view (tells-of settle FindsWithin _ _ _ c.settle-clock.ensures.step) c.in-Err.cause
    c.check_to_grant.new.seat.me.0.view c.in-Err.ensures.checks)

pub leave-requires-in-Err-clause-named : goal.leave-requires-in-Err-clause-named
leave-requires-in-Err-clause-named g c =
    let can = can-grant g.K.MemRule.good c.args.stm.now
    (opened g.K.MemRule.good c.args.stm.now c.desc.inside.number c.desc.inside.local c.desc.view_is refl c.desc.invariant.0.named
    c.desc.invariant.0.low c.desc.invariant.1 c.requires.stm) c.requires.running c.requires.algorithm c.requires.revocable c.requires.alone
    in
    sym (inside _ _ _ _ _ can.attempt).named
    ∙ sym (laws.named-failed _ _ _ _ _ can c.settle-clock.result c.settle-clock.new.seat.me.0.view
    (tells-of settle FindsWithin _ _ _ c.settle-clock.ensures.step) c.in-Err.cause c.check_to_grant.new.seat.me.0.view
    c.in-Err.ensures.checks)

pub returns-in-Err-clause-grants : goal.returns-in-Err-clause-grants
returns-in-Err-clause-grants g c =
    let a = opened g.K.MemRule.good c.args.stm.now c.desc.inside.number c.desc.inside.local c.desc.view_is refl c.desc.invariant.0.named c.desc.invariant.0.low c.desc.invariant.1 c.requires.stm in
    let P = λ (n : ℕ) (v w : CallerState). Grants (g.K.MemRule.good c.args.stm.now.rule) c.args.stm.now.config n (irrevs.Conflict c.in-Err.cause) v w in
    opening.tells-of g.K.MemRule.good c.args.stm.now a P (known_of c.leave-in-Err.new.seat.me.0.view (own_of c.leave-in-Err.new.local))
    (subst (λ (m : Local).
    P c.desc.inside.number (known_of c.desc.inside.seat.me.0.view (own_of c.desc.inside.local))
    (known_of c.leave-in-Err.new.seat.me.0.view (own_of m))) (sym c.leave-in-Err.ensures.idle)
    (laws.tells-conflict _ _ _ _ _
    (can-grant g.K.MemRule.good c.args.stm.now a c.requires.running c.requires.algorithm c.requires.revocable c.requires.alone)
    c.settle-clock.result c.settle-clock.new.seat.me.0.view (tells-of settle FindsWithin _ _ _ c.settle-clock.ensures.step) c.in-Err.cause
    c.check_to_grant.new.seat.me.0.view c.in-Err.ensures.checks a.low c.leave-in-Err.new.seat.me.0.view
    (ap (λ q. q.view) c.leave-in-Err.ensures.left)))

pub store_all-requires-clause-granted : goal.store_all-requires-clause-granted
store_all-requires-clause-granted g c =
    laws.may-store _ _ _ _ _
    (can-grant g.K.MemRule.good c.args.stm.now
    (opened g.K.MemRule.good c.args.stm.now c.desc.inside.number c.desc.inside.local c.desc.view_is refl c.desc.invariant.0.named
    c.desc.invariant.0.low c.desc.invariant.1 c.requires.stm) c.requires.running c.requires.algorithm c.requires.revocable c.requires.alone)
    c.settle-clock.result c.settle-clock.new.seat.me.0.view (tells-of settle FindsWithin _ _ _ c.settle-clock.ensures.step) (search rules)
    c.in-Ok.start c.check_to_grant.new.seat.me.0.view c.in-Ok.ensures.checks

pub store_all-requires-clause-spared : goal.store_all-requires-clause-spared
store_all-requires-clause-spared g c =
    laws.are-spared _ _ _ _ _
    (can-grant g.K.MemRule.good c.args.stm.now
    (opened g.K.MemRule.good c.args.stm.now c.desc.inside.number c.desc.inside.local c.desc.view_is refl c.desc.invariant.0.named
    c.desc.invariant.0.low c.desc.invariant.1 c.requires.stm) c.requires.running c.requires.algorithm c.requires.revocable c.requires.alone)
    c.settle-clock.result c.settle-clock.new.seat.me.0.view (tells-of settle FindsWithin _ _ _ c.settle-clock.ensures.step) (search rules)
    c.in-Ok.start c.check_to_grant.new.seat.me.0.view c.in-Ok.ensures.checks

pub store_all-requires-clause-inside : goal.store_all-requires-clause-inside
store_all-requires-clause-inside g c =
    (laws.kept-writes _ _ _ _ _
    (can-grant g.K.MemRule.good c.args.stm.now
    (opened g.K.MemRule.good c.args.stm.now c.desc.inside.number c.desc.inside.local c.desc.view_is refl c.desc.invariant.0.named
    c.desc.invariant.0.low c.desc.invariant.1 c.requires.stm) c.requires.running c.requires.algorithm c.requires.revocable
    c.requires.alone)).inside

pub invariant_of-desc-in-Ok : goal.invariant_of-desc-in-Ok
invariant_of-desc-in-Ok g c =
    let a = opened g.K.MemRule.good c.args.stm.now c.desc.inside.number c.desc.inside.local c.desc.view_is refl c.desc.invariant.0.named c.desc.invariant.0.low c.desc.invariant.1 c.requires.stm in (
      search rules,
      stands-after g.K.MemRule.good c.args.stm.now a c.store_all.new.seat.me.0
          (record c.desc.inside.local { start = c.in-Ok.start; granted = true })
          (ap (λ (y : SeatView g.row.K.Denot). y.who) c.store_all.ensures.same.1
          ∙ (ap (λ (y : SeatView g.row.K.Denot). y.who) c.check_to_grant.ensures.same.1
          ∙ who-of settle FindsWithin c.desc.inside.seat.me.0 c.settle-clock.result c.settle-clock.new.seat.me.0 c.settle-clock.ensures.step))
          (laws.promotes _ _ _ _ _
          (can-grant g.K.MemRule.good c.args.stm.now a c.requires.running c.requires.algorithm c.requires.revocable c.requires.alone)
          c.settle-clock.result c.settle-clock.new.seat.me.0.view (tells-of settle FindsWithin _ _ _ c.settle-clock.ensures.step) (search rules)
          c.in-Ok.start c.check_to_grant.new.seat.me.0.view c.in-Ok.ensures.checks c.store_all.new.seat.me.0.view
          c.store_all.ensures.stores).stands,
    )

pub returns-in-Ok-clause-grants : goal.returns-in-Ok-clause-grants
returns-in-Ok-clause-grants g c =
    let a = opened g.K.MemRule.good c.args.stm.now c.desc.inside.number c.desc.inside.local c.desc.view_is refl c.desc.invariant.0.named c.desc.invariant.0.low c.desc.invariant.1 c.requires.stm in
    opening.tells-of g.K.MemRule.good c.args.stm.now a
    (λ (n : ℕ) (v w : CallerState). Grants (g.K.MemRule.good c.args.stm.now.rule) c.args.stm.now.config n irrevs.Granted v w)
    (known_of c.store_all.new.seat.me.0.view (own_of (record c.desc.inside.local { start = c.in-Ok.start; granted = true })))
    (laws.promotes _ _ _ _ _
    (can-grant g.K.MemRule.good c.args.stm.now a c.requires.running c.requires.algorithm c.requires.revocable c.requires.alone)
    c.settle-clock.result c.settle-clock.new.seat.me.0.view (tells-of settle FindsWithin _ _ _ c.settle-clock.ensures.step) (search rules)
    c.in-Ok.start c.check_to_grant.new.seat.me.0.view c.in-Ok.ensures.checks c.store_all.new.seat.me.0.view c.store_all.ensures.stores).told
