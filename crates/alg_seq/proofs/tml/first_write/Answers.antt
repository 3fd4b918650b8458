use Rattle.std.proofs.Common.{ℕ, ◌≡◌, ◌∙◌, ap, refl, true, rules}
use Rattle.stm_model.specs.declared.stop.Cause.TheVariants as causes
use Rattle.rule_base.specs.declared.seats.SeatView.{SeatView}
use Rattle.rule_base.specs.StepKinds.{Nothing}
use Rattle.rule_seq.specs.TmlSteps.{tml_again, tml_write, tml_store}
use Rattle.stm_rule.specs.Attempts.{own_of}
use Rattle.stm_rule.specs.Findings.{FindsSole, FindsAgain}
use Rattle.stm_rule.specs.Kept.{good_of}
use Rattle.stm_rule.proofs.StandLemmas.{tells-of}
use Rattle.stm_answers.specs.declared.answers.Write.TheVariants as writes
use Rattle.stm_answers.specs.Answers.{HasWritten}
use Rattle.stm_answers.specs.CallerState.{CallerState}
use Rattle.stm_gate.proofs.Opening.{opened, shows, stands-after}
use Rattle.stm_gate.proofs.Told.{stands-on}
use Rattle.alg_seq.proofs.TmlLaws as laws
use Rattle.alg_seq.proofs.TmlOpening.{revocable}
use Rattle.alg_seq.proofs.tml.first_write.Goals as goal

pub tml_again-clock-requires-clause-view : goal.tml_again-clock-requires-clause-view
tml_again-clock-requires-clause-view g c =
    let p = revocable g.K.MemRule.good c.args.stm.now
    (opened g.K.MemRule.good c.args.stm.now c.desc.inside.number c.desc.inside.local c.desc.view_is refl c.desc.invariant.0.named
    c.desc.invariant.0.low c.desc.invariant.1 c.requires.stm) c.requires.running.0 c.requires.algorithm c.requires.revocable in
    laws.may-ask _ _ _ p.attempt p.clean

pub withdraw-requires-clause-view : goal.withdraw-requires-clause-view
withdraw-requires-clause-view g c =
    let p = revocable g.K.MemRule.good c.args.stm.now
    (opened g.K.MemRule.good c.args.stm.now c.desc.inside.number c.desc.inside.local c.desc.view_is refl c.desc.invariant.0.named
    c.desc.invariant.0.low c.desc.invariant.1 c.requires.stm) c.requires.running.0 c.requires.algorithm c.requires.revocable in
    laws.may-leave-asked _ _ _ p.attempt _ _ p.clean (tells-of tml_again (FindsAgain _ _) _ _ _ c.tml_again-clock.ensures.step)

pub returns-then-clock-start-clause-write : goal.returns-then-clock-start-clause-write
returns-then-clock-start-clause-write g c =
    let a = opened g.K.MemRule.good c.args.stm.now c.desc.inside.number c.desc.inside.local c.desc.view_is refl c.desc.invariant.0.named c.desc.invariant.0.low c.desc.invariant.1 c.requires.stm in
    let p = revocable g.K.MemRule.good c.args.stm.now a c.requires.running.0 c.requires.algorithm c.requires.revocable in
    shows _ _ a
    (λ (n : ℕ) (v w : CallerState).
    HasWritten (g.K.MemRule.good c.args.stm.now.rule) c.args.stm.now.config n c.args.a c.args.x
    (writes.Conflict (causes.Clock c.desc.inside.local.start c.tml_again-clock.result)) v w) c.withdraw.new.seat.me.0.view
    c.withdraw.new.local (ap own_of c.withdraw.ensures.idle)
    (laws.refused-asked _ _ _ p.attempt c.args.a c.args.x _ _ _ a.low p.clean (search rules) (tells-of tml_again (FindsAgain _ _) _ _ _ c.tml_again-clock.ensures.step) (ap (λ q. q.view) c.withdraw.ensures.left))

pub returns-then-clock-ge-CLOCK_LIMIT-clause-write : goal.returns-then-clock-ge-CLOCK_LIMIT-clause-write
returns-then-clock-ge-CLOCK_LIMIT-clause-write g c =
    let a = opened g.K.MemRule.good c.args.stm.now c.desc.inside.number c.desc.inside.local c.desc.view_is refl c.desc.invariant.0.named c.desc.invariant.0.low c.desc.invariant.1 c.requires.stm in
    let p = revocable g.K.MemRule.good c.args.stm.now a c.requires.running.0 c.requires.algorithm c.requires.revocable in
    shows _ _ a
    (λ (n : ℕ) (v w : CallerState).
    HasWritten (g.K.MemRule.good c.args.stm.now.rule) c.args.stm.now.config n c.args.a c.args.x (writes.ClockFull c.tml_again-clock.result)
    v w) c.withdraw-then-clock-ge-CLOCK_LIMIT.new.seat.me.0.view c.withdraw-then-clock-ge-CLOCK_LIMIT.new.local
    (ap own_of c.withdraw-then-clock-ge-CLOCK_LIMIT.ensures.idle)
    (laws.refused-full _ _ _ p.attempt c.args.a c.args.x _ _ _ p.clean (search rules)
    (tells-of tml_again (FindsAgain _ _) _ _ _ c.tml_again-clock.ensures.step)
    (ap (λ q. q.view) c.withdraw-then-clock-ge-CLOCK_LIMIT.ensures.left))

pub tml_write-found-requires-clause-view : goal.tml_write-found-requires-clause-view
tml_write-found-requires-clause-view g c =
    let p = revocable g.K.MemRule.good c.args.stm.now
    (opened g.K.MemRule.good c.args.stm.now c.desc.inside.number c.desc.inside.local c.desc.view_is refl c.desc.invariant.0.named
    c.desc.invariant.0.low c.desc.invariant.1 c.requires.stm) c.requires.running.0 c.requires.algorithm c.requires.revocable in
    laws.may-try _ _ _ p.attempt _ _ p.clean (search rules) (search rules) (tells-of tml_again (FindsAgain _ _) _ _ _ c.tml_again-clock.ensures.step)

pub withdraw-requires-then-found-start-clause-view : goal.withdraw-requires-then-found-start-clause-view
withdraw-requires-then-found-start-clause-view g c =
    let p = revocable g.K.MemRule.good c.args.stm.now
    (opened g.K.MemRule.good c.args.stm.now c.desc.inside.number c.desc.inside.local c.desc.view_is refl c.desc.invariant.0.named
    c.desc.invariant.0.low c.desc.invariant.1 c.requires.stm) c.requires.running.0 c.requires.algorithm c.requires.revocable in
    laws.may-leave-tried _ _ _ p.attempt _ _ _ _ p.clean (search rules)
    (tells-of tml_again (FindsAgain _ _) _ _ _ c.tml_again-clock.ensures.step)
    (tells-of (tml_write c.desc.inside.local.start) (FindsSole c.args.stm.now.config) _ _ _ c.tml_write-found.ensures.step)

pub returns-then-found-start-clause-write : goal.returns-then-found-start-clause-write
returns-then-found-start-clause-write g c =
    let a = opened g.K.MemRule.good c.args.stm.now c.desc.inside.number c.desc.inside.local c.desc.view_is refl c.desc.invariant.0.named c.desc.invariant.0.low c.desc.invariant.1 c.requires.stm in
    let p = revocable g.K.MemRule.good c.args.stm.now a c.requires.running.0 c.requires.algorithm c.requires.revocable in
    shows _ _ a
    (λ (n : ℕ) (v w : CallerState).
    HasWritten (g.K.MemRule.good c.args.stm.now.rule) c.args.stm.now.config n c.args.a c.args.x
    (writes.Conflict (causes.Clock c.desc.inside.local.start c.tml_write-found.result)) v w) c.withdraw-then-found-start.new.seat.me.0.view
    c.withdraw-then-found-start.new.local (ap own_of c.withdraw-then-found-start.ensures.idle)
    (laws.refused-tried _ _ _ p.attempt c.args.a c.args.x _ _ _ _ _ a.low p.clean (search rules)
    (tells-of tml_again (FindsAgain _ _) _ _ _ c.tml_again-clock.ensures.step)
    (tells-of (tml_write c.desc.inside.local.start) (FindsSole c.args.stm.now.config) _ _ _ c.tml_write-found.ensures.step)
    (ap (λ q. q.view) c.withdraw-then-found-start.ensures.left))

pub invariant_of-desc-2 : goal.invariant_of-desc-2
invariant_of-desc-2 g c =
    let a = opened g.K.MemRule.good c.args.stm.now c.desc.inside.number c.desc.inside.local c.desc.view_is refl c.desc.invariant.0.named c.desc.invariant.0.low c.desc.invariant.1 c.requires.stm in
    let p = revocable g.K.MemRule.good c.args.stm.now a c.requires.running.0 c.requires.algorithm c.requires.revocable in
    let won : c.tml_write-found.result ≡ c.desc.inside.local.start = search rules in
    let ask = tells-of tml_again (FindsAgain (good_of g.K.MemRule.good c.args.stm.now.config c.args.stm.now.rule) c.args.stm.now.config) _ c.tml_again-clock.result _ c.tml_again-clock.ensures.step in
    let try = tells-of (tml_write c.desc.inside.local.start) (FindsSole c.args.stm.now.config) _ c.tml_write-found.result _ c.tml_write-found.ensures.step in
    let store = tells-of (tml_store c.args.a c.args.x) Nothing _ c.args.x _ c.tml_store.ensures.step in (
      search rules,
      stands-after _ _ a c.tml_store.new.seat.me.0 (record c.desc.inside.local { wrote = true })
          (ap (λ (y : SeatView g.row.K.Denot). y.who) c.tml_store.ensures.step.3
          ∙ (ap (λ (y : SeatView g.row.K.Denot). y.who) c.tml_write-found.ensures.step.3
          ∙ ap (λ (y : SeatView g.row.K.Denot). y.who) c.tml_again-clock.ensures.step.3))
          (stands-on _ _ _ _ _ _ _ p.attempt.inside.phase a.stands refl refl a.stands.lengths
          (laws.put_holds _ _ _ p.attempt c.args.a c.args.x _ _ _ _ _ won ask try store)
          (laws.stays-written _ _ _ p.attempt c.args.a c.args.x _ _ _ _ _ c.requires.inside p.plain p.clean (search rules) won ask try store)),
    )

pub returns-clause-write : goal.returns-clause-write
returns-clause-write g c =
    let a = opened g.K.MemRule.good c.args.stm.now c.desc.inside.number c.desc.inside.local c.desc.view_is refl c.desc.invariant.0.named c.desc.invariant.0.low c.desc.invariant.1 c.requires.stm in
    let p = revocable g.K.MemRule.good c.args.stm.now a c.requires.running.0 c.requires.algorithm c.requires.revocable in
    shows _ _ a
    (λ (n : ℕ) (v w : CallerState).
    HasWritten (g.K.MemRule.good c.args.stm.now.rule) c.args.stm.now.config n c.args.a c.args.x writes.Done v w)
    c.tml_store.new.seat.me.0.view (record c.desc.inside.local { wrote = true }) refl
    (laws.tells-first _ _ _ p.attempt c.args.a c.args.x _ _ _ _ _ p.clean (search rules)
    (tells-of tml_again (FindsAgain _ _) _ _ _ c.tml_again-clock.ensures.step)
    (tells-of (tml_write c.desc.inside.local.start) (FindsSole c.args.stm.now.config) _ _ _ c.tml_write-found.ensures.step)
    (tells-of (tml_store c.args.a c.args.x) Nothing _ c.args.x _ c.tml_store.ensures.step))
