use Rattle.std.proofs.Common.{ℕ, List, ◌≤◌, ◌≡◌, ◌<◌, ◌+◌, length, refl, sym, ap, ◌∙◌, arith, subst, true, rules}
use Rattle.stm_model.specs.declared.config.TheConstants.{CLOCK_LIMIT}
use Rattle.rule_base.specs.declared.seats.SeatView.{SeatView}
use Rattle.rule_base.specs.declared.views.TracedStep.{TracedStep}
use Rattle.rule_base.specs.declared.views.View.{View}
use Rattle.rule_base.specs.Encodings.{free_record}
use Rattle.rule_base.specs.History.{over, touches, without}
use Rattle.rule_promoted.specs.RaisingSteps.{direct_raise_clock}
use Rattle.alg_orec.specs.RecordFindings.{FindsStill}
use Rattle.stm_gate.proofs.Peeling.{peeled}
use Rattle.stm_rule.proofs.StandLemmas.{tells-of}
use Rattle.alg_orec.specs.EagerEnding.{AllBelow}
use Rattle.alg_orec.proofs.Eager.EagerBackLaws.{newest-low}
use Rattle.alg_orec.proofs.Eager.EagerDirectLaws as laws
use Rattle.alg_orec.proofs.Eager.EagerReleasing.{below-without, up-step}
use Rattle.alg_orec.proofs.Eager.EagerWriteLaws.{seat-then}
use Rattle.alg_orec.proofs.Releasing.{gives-none, gives-more, gives-all}
use Rattle.alg_orec.proofs.eager_committing.give_above.Goals.{After-direct_raise_clock, After-item-r}
use Rattle.alg_orec.proofs.eager_committing.give_above.Goals as goal

pub returns-then-count-eq0-clause-gives : goal.returns-then-count-eq0-clause-gives
returns-then-count-eq0-clause-gives g c =
    let none : length c.args.local.now.locks.items ≡ 0 = search rules in
    laws.gives-none c.args.stm.now.config c.args.local.now c.args.seat.now.me.0.view c.requires.view none

pub overflow_add-least : goal.overflow_add-least
overflow_add-least g c =
    let some : 0 < length c.args.local.now.locks.items = search rules in
    let low = newest-low c.args.local.now.locks.items c.args.seat.now.me.0.view.owned.held c.requires.view.locks c.newest-least.result c.newest-least.ensures some c.requires.view.below in
    omega arith

pub direct_raise_clock-requires-clause-view : goal.direct_raise_clock-requires-clause-view
direct_raise_clock-requires-clause-view g c =
    let some : 0 < length c.args.local.now.locks.items = search rules in
    laws.may-raise_clock c.args.stm.now.config c.args.local.now c.args.seat.now.me.0.view c.requires.view some c.newest-least.result c.newest-least.ensures (c.newest-least.result + 1) refl

-- the clock was raised
clock_raised : (g : _) (c : After-direct_raise_clock g) → 0 < length c.args.local.now.locks.items → laws.IsClockRaised c.args.stm.now.config c.args.local.now c.direct_raise_clock.new.seat.me.0.view
clock_raised g c some =
    let f = c.args.stm.now.config in
    let least = c.newest-least.result + 1 in
    let w = c.direct_raise_clock.new.seat.me.0 in
    laws.is-clock_raised f c.args.local.now c.args.seat.now.me.0.view c.requires.view some c.newest-least.result c.newest-least.ensures least c.direct_raise_clock.result w.view
    (tells-of (direct_raise_clock least) (FindsStill f) c.args.seat.now.me.0 c.direct_raise_clock.result w c.direct_raise_clock.ensures.step)

pub loop-i-init : goal.loop-i-init
loop-i-init g c =
    let some : 0 < length c.args.local.now.locks.items = search rules in
    let k = clock_raised g (goal.at.loop-i-init g c).After-direct_raise_clock some in
    record { table = refl; id = refl; bare = refl; gives = gives-none _ _ _ k.locks k.places; below = k.below }

-- the next record is one of those that are held still
next : (g : _) (c : After-item-r g) → (touches c.loop-i.seat.me.0.view.owned.held c.item-r.result.0 ≡ true) × (c.item-r.result.1 ≡ over c.loop-i.seat.me.0.view.owned.held c.item-r.result.0 0)
next g c =
    let p = peeled c.args.local.now.locks.items c.loop-i.i c.loop-i.seat.me.0.view.owned.held c.item-r.result
    (omega (arith, c.loop-i-test.true, c.count-i-end.ensures.count)) c.count-i-end.ensures.once c.loop-i.invariant.gives.left
    c.item-r.ensures in
    (p.0, p.1)

pub overflow_add-version : goal.overflow_add-version
overflow_add-version g c =
    let p = next g (goal.at.overflow_add-version g c).After-item-r in
    let low = c.loop-i.invariant.below c.item-r.result.0 p.0 in
    let is = p.1 in
    omega arith

pub direct_release_above-requires-clause-place : goal.direct_release_above-requires-clause-place
direct_release_above-requires-clause-place g c =
    c.loop-i.invariant.gives.places c.item-r.result.0 (next g (goal.at.direct_release_above-requires-clause-place g c).After-item-r).0

pub direct_release_above-requires-clause-limit : goal.direct_release_above-requires-clause-limit
direct_release_above-requires-clause-limit g c =
    let p = next g (goal.at.direct_release_above-requires-clause-limit g c).After-item-r in
    let low = c.loop-i.invariant.below c.item-r.result.0 p.0 in
    let is = p.1 in
    omega arith

pub direct_release_above-requires-clause-view : goal.direct_release_above-requires-clause-view
direct_release_above-requires-clause-view g c =
    let at = goal.at.direct_release_above-requires-clause-view g c in
    let some : 0 < length c.args.local.now.locks.items = search rules in
    let k = clock_raised g at.After-direct_raise_clock some in
    let p = next g at.After-item-r in
    let is = ap (λ (y : SeatView g.row.K.Denot). y.view) c.loop-i.invariant.gives.seat in
    record {
      phase = ap (λ (y : View). y.gate.phase) is ∙ k.phase;
      granted = ap (λ (y : View). y.gate.granted) is ∙ k.granted;
      named = ap (λ (y : View). y.gate.algorithm) is ∙ k.eager;
      unentered = ap (λ (y : View). y.attempt.entered) is ∙ k.unentered;
      held = p.0;
      raised = ap (λ (y : View). y.owned.raised) is ∙ k.raised;
      next = ap (λ (k : ℕ). k + 1) p.1;
    }

pub loop-i-preserved : goal.loop-i-preserved
loop-i-preserved g c =
    let i = c.loop-i.invariant in
    let s = c.loop-i.seat.me.0 in
    let t = c.direct_release_above.new.seat.me.0 in
    let e = c.direct_release_above.ensures in
    let above = c.item-r.result.1 + 1 in
    let held : t.view.owned.held ≡ without s.view.owned.held c.item-r.result.0 = ap (λ (y : SeatView g.row.K.Denot). y.view.owned.held) e.step.3 in
    let low : c.loop-i.i < length c.args.local.now.locks.items = omega (arith, c.loop-i-test.true, c.count-i-end.ensures.count) in
    record {
      table = e.same.0 ∙ i.table;
      id = e.same.1 ∙ i.id;
      bare = e.same.2 ∙ i.bare;
      gives = gives-more _ _ _ _ s i.gives c.item-r.result low c.count-i-end.ensures.once c.item-r.ensures t above held
          (up-step c.direct_raise_clock.new.seat.me.0 s t i.gives.more c.item-r.result.0 above (free_record above) e.step.0 i.gives.seat e.step.3);
      below = subst (AllBelow CLOCK_LIMIT) (sym held) (below-without CLOCK_LIMIT s.view.owned.held c.item-r.result.0 i.below);
    }

pub returns-clause-gives : goal.returns-clause-gives
returns-clause-gives g c =
    let f = c.args.stm.now.config in
    let some : 0 < length c.args.local.now.locks.items = search rules in
    let least = c.newest-least.result + 1 in
    let w = c.direct_raise_clock.new.seat.me.0 in
    laws.gives-above f c.args.local.now c.args.seat.now.me.0.view c.requires.view some c.newest-least.result c.newest-least.ensures least c.direct_raise_clock.result w.view
    (tells-of (direct_raise_clock least) (FindsStill f) c.args.seat.now.me.0 c.direct_raise_clock.result w c.direct_raise_clock.ensures.step) c.loop-i.seat.me.0.view
    (gives-all _ _ _ _ _ c.loop-i.invariant.gives (omega (arith, c.loop-i-test.false, c.count-i-end.ensures.count)))

pub returns-clause-same : goal.returns-clause-same
returns-clause-same g c =
    let i = c.loop-i.invariant in
    let e = c.direct_raise_clock.ensures in
    let s = c.args.seat.now.me.0 in
    let u = c.direct_raise_clock.new.seat.me.0 in
    let w = c.loop-i.seat.me.0 in (
      (i.table ∙ e.same.0, i.id ∙ e.same.1, i.bare ∙ e.same.2),
      seat-then s u w
          (e.step.3 ∙ ap (λ (y : View). record s { view = y }) (sym (ap (λ (y : SeatView g.row.K.Denot). y.view) e.step.3)))
          (i.gives.seat ∙ ap (λ (y : View). record u { view = y }) (sym (ap (λ (y : SeatView g.row.K.Denot). y.view) i.gives.seat))),
    )

pub returns-clause-steps : goal.returns-clause-steps
returns-clause-steps g c =
    let f = c.args.stm.now.config in
    let some : 0 < length c.args.local.now.locks.items = search rules in
    let least = c.newest-least.result + 1 in
    let w = c.direct_raise_clock.new.seat.me.0 in
    let raise_clock = ap (λ (t : List TracedStep). length t) (laws.raise_clock-step_trace f c.args.local.now c.args.seat.now.me.0.view
    c.requires.view some c.newest-least.result c.newest-least.ensures least c.direct_raise_clock.result w.view
    (tells-of (direct_raise_clock least) (FindsStill f) c.args.seat.now.me.0 c.direct_raise_clock.result w c.direct_raise_clock.ensures.step)) in
    let q = c.loop-i.invariant.gives.steps in
    let most : c.loop-i.i ≤ length c.args.local.now.locks.items = omega (arith, c.loop-i.auto.i-end, c.count-i-end.ensures) in
    omega arith
