use Rattle.std.proofs.Common.{ℕ, ◌≡◌, ◌<◌, ◌∙◌, ap, refl, true, rules}
use Rattle.stm_model.specs.declared.config.TheConstants.{CLOCK_LIMIT}
use Rattle.stm_model.specs.declared.stop.Cause.TheVariants as causes
use Rattle.rule_promoted.specs.PromotedSteps.{tml_grant}
use Rattle.stm_rule.specs.Attempts.{own_of}
use Rattle.stm_rule.specs.Findings.{FindsSole}
use Rattle.stm_rule.proofs.StandLemmas.{tells-of}
use Rattle.stm_answers.specs.declared.answers.Irrev.TheVariants as irrevs
use Rattle.stm_answers.specs.CallerState.{CallerState}
use Rattle.stm_gate.proofs.Standing.{who-of}
use Rattle.stm_gate.specs.Granting.{IsAlone, Grants}
use Rattle.stm_gate.proofs.Told.{stands-on}
use Rattle.stm_gate.proofs.Opening.{opened, shows, of-seen, stands-after}
use Rattle.alg_seq.proofs.TmlLaws as laws
use Rattle.alg_seq.proofs.TmlOpening.{revocable}
use Rattle.alg_seq.proofs.tml.grant.Goals as goal

pub tml_grant-clock-requires-clause-view : goal.tml_grant-clock-requires-clause-view
tml_grant-clock-requires-clause-view g c =
    let a = opened g.K.MemRule.good c.args.stm.now c.desc.inside.number c.desc.inside.local c.desc.view_is refl c.desc.invariant.0.named c.desc.invariant.0.low c.desc.invariant.1 c.requires.stm in
    let p = revocable g.K.MemRule.good c.args.stm.now a c.requires.running.0 c.requires.algorithm c.requires.revocable in
    laws.may-grant _ _ _ p.attempt p.clean (of-seen _ _ a (IsAlone c.args.stm.now.config.callers) c.requires.alone)

pub leave-requires-clause-view : goal.leave-requires-clause-view
leave-requires-clause-view g c =
    let p = revocable g.K.MemRule.good c.args.stm.now
    (opened g.K.MemRule.good c.args.stm.now c.desc.inside.number c.desc.inside.local c.desc.view_is refl c.desc.invariant.0.named
    c.desc.invariant.0.low c.desc.invariant.1 c.requires.stm) c.requires.running.0 c.requires.algorithm c.requires.revocable in
    laws.may-leave-full _ _ _ p.attempt c.tml_grant-clock.result c.tml_grant-clock.new.seat.me.0.view p.clean (search rules) (tells-of tml_grant (FindsSole c.args.stm.now.config) _ _ _ c.tml_grant-clock.ensures.step)

pub returns-then-clock-ge-CLOCK_LIMIT-clause-grants : goal.returns-then-clock-ge-CLOCK_LIMIT-clause-grants
returns-then-clock-ge-CLOCK_LIMIT-clause-grants g c =
    let a = opened g.K.MemRule.good c.args.stm.now c.desc.inside.number c.desc.inside.local c.desc.view_is refl c.desc.invariant.0.named c.desc.invariant.0.low c.desc.invariant.1 c.requires.stm in
    let p = revocable g.K.MemRule.good c.args.stm.now a c.requires.running.0 c.requires.algorithm c.requires.revocable in
    shows _ _ a
    (λ (n : ℕ) (v w : CallerState).
    Grants (g.K.MemRule.good c.args.stm.now.rule) c.args.stm.now.config n (irrevs.ClockFull c.tml_grant-clock.result) v w)
    c.leave.new.seat.me.0.view c.leave.new.local (ap own_of c.leave.ensures.idle)
    (laws.grants-full _ _ _ p.attempt c.tml_grant-clock.result c.tml_grant-clock.new.seat.me.0.view c.leave.new.seat.me.0.view p.clean
    (search rules) (tells-of tml_grant (FindsSole c.args.stm.now.config) _ _ _ c.tml_grant-clock.ensures.step)
    (ap (λ q. q.view) c.leave.ensures.left))

pub leave-requires-then-clock-start-clause-view : goal.leave-requires-then-clock-start-clause-view
leave-requires-then-clock-start-clause-view g c =
    let p = revocable g.K.MemRule.good c.args.stm.now
    (opened g.K.MemRule.good c.args.stm.now c.desc.inside.number c.desc.inside.local c.desc.view_is refl c.desc.invariant.0.named
    c.desc.invariant.0.low c.desc.invariant.1 c.requires.stm) c.requires.running.0 c.requires.algorithm c.requires.revocable in
    laws.may-leave-moved _ _ _ p.attempt c.tml_grant-clock.result c.tml_grant-clock.new.seat.me.0.view p.clean (search rules) (tells-of tml_grant (FindsSole c.args.stm.now.config) _ _ _ c.tml_grant-clock.ensures.step)

pub returns-then-clock-start-clause-grants : goal.returns-then-clock-start-clause-grants
returns-then-clock-start-clause-grants g c =
    let a = opened g.K.MemRule.good c.args.stm.now c.desc.inside.number c.desc.inside.local c.desc.view_is refl c.desc.invariant.0.named c.desc.invariant.0.low c.desc.invariant.1 c.requires.stm in
    let p = revocable g.K.MemRule.good c.args.stm.now a c.requires.running.0 c.requires.algorithm c.requires.revocable in
    shows _ _ a
    (λ (n : ℕ) (v w : CallerState).
    Grants (g.K.MemRule.good c.args.stm.now.rule) c.args.stm.now.config n
    (irrevs.Conflict (causes.Clock c.desc.inside.local.start c.tml_grant-clock.result)) v w) c.leave-then-clock-start.new.seat.me.0.view
    c.leave-then-clock-start.new.local (ap own_of c.leave-then-clock-start.ensures.idle)
    (laws.grants-moved _ _ _ p.attempt c.tml_grant-clock.result c.tml_grant-clock.new.seat.me.0.view
    c.leave-then-clock-start.new.seat.me.0.view a.low p.clean (search rules)
    (tells-of tml_grant (FindsSole c.args.stm.now.config) _ _ _ c.tml_grant-clock.ensures.step)
    (ap (λ q. q.view) c.leave-then-clock-start.ensures.left))

pub invariant_of-desc-2 : goal.invariant_of-desc-2
invariant_of-desc-2 g c =
    let a = opened g.K.MemRule.good c.args.stm.now c.desc.inside.number c.desc.inside.local c.desc.view_is refl c.desc.invariant.0.named c.desc.invariant.0.low c.desc.invariant.1 c.requires.stm in
    let p = revocable g.K.MemRule.good c.args.stm.now a c.requires.running.0 c.requires.algorithm c.requires.revocable in
    let t = tells-of tml_grant (FindsSole c.args.stm.now.config) _ _ _ c.tml_grant-clock.ensures.step in
    let same : c.tml_grant-clock.result ≡ c.desc.inside.local.start = search rules in
    let under : c.tml_grant-clock.result < CLOCK_LIMIT = search rules in (
      search rules,
      stands-after _ _ a c.tml_grant-clock.new.seat.me.0 (record c.desc.inside.local { granted = true })
          (who-of tml_grant (FindsSole c.args.stm.now.config) c.desc.inside.seat.me.0 c.tml_grant-clock.result c.tml_grant-clock.new.seat.me.0
          c.tml_grant-clock.ensures.step)
          (stands-on _ _ _ _ _ _ _ p.attempt.inside.phase a.stands refl refl a.stands.lengths
          (laws.grant_holds _ _ _ p.attempt c.tml_grant-clock.result c.tml_grant-clock.new.seat.me.0.view same under t)
          (laws.stays-promoted _ _ _ p.attempt c.tml_grant-clock.result c.tml_grant-clock.new.seat.me.0.view
          (c.desc.invariant.1.holds ∙ (of-seen _ _ a (IsAlone c.args.stm.now.config.callers) c.requires.alone).holds) p.clean same under
          t)),
    )

pub returns-clause-grants : goal.returns-clause-grants
returns-clause-grants g c =
    let a = opened g.K.MemRule.good c.args.stm.now c.desc.inside.number c.desc.inside.local c.desc.view_is refl c.desc.invariant.0.named c.desc.invariant.0.low c.desc.invariant.1 c.requires.stm in
    let p = revocable g.K.MemRule.good c.args.stm.now a c.requires.running.0 c.requires.algorithm c.requires.revocable in
    shows _ _ a (λ (n : ℕ) (v w : CallerState). Grants (g.K.MemRule.good c.args.stm.now.rule) c.args.stm.now.config n irrevs.Granted v w)
    c.tml_grant-clock.new.seat.me.0.view (record c.desc.inside.local { granted = true }) refl
    (laws.grants-so _ _ _ p.attempt c.tml_grant-clock.result c.tml_grant-clock.new.seat.me.0.view p.clean (search rules) (search rules)
    (of-seen _ _ a (IsAlone c.args.stm.now.config.callers) c.requires.alone)
    (tells-of tml_grant (FindsSole c.args.stm.now.config) _ _ _ c.tml_grant-clock.ensures.step))
