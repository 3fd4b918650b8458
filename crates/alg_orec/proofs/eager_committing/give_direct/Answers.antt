use Rattle.std.proofs.Common.{◌≤◌, ◌≡◌, ◌<◌, length, refl, sym, ap, ◌∙◌, arith, true}
use Rattle.stm_model.specs.Algorithms.{has_records}
use Rattle.rule_base.specs.declared.seats.SeatView.{SeatView}
use Rattle.rule_base.specs.declared.views.View.{View}
use Rattle.rule_base.specs.Encodings.{free_record}
use Rattle.rule_base.specs.History.{touches}
use Rattle.alg_orec.proofs.Eager.EagerReleasing.{direct-step}
use Rattle.alg_orec.proofs.Releasing.{gives-none, next-held, gives-more, gives-all}
use Rattle.alg_orec.proofs.eager_committing.give_direct.Goals.{After-item-r}
use Rattle.alg_orec.proofs.eager_committing.give_direct.Goals as goal

pub loop-i-init : goal.loop-i-init
loop-i-init g c = record {
  table = refl;
  id = refl;
  bare = refl;
  gives = gives-none _ _ _ c.requires.view.locks
      c.requires.view.places;
}

-- the record that is given back is held
next : (g : _) (c : After-item-r g) → touches c.loop-i.seat.me.0.view.owned.held c.item-r.result.0 ≡ true
next g c = next-held _ _ _ _ _ c.loop-i.invariant.gives _
    (omega (arith, c.loop-i-test.true, c.count-i-end.ensures.count)) c.count-i-end.ensures.once c.item-r.ensures

pub direct_release-requires-clause-place : goal.direct_release-requires-clause-place
direct_release-requires-clause-place g c = c.loop-i.invariant.gives.places c.item-r.result.0
    (next g (goal.at.direct_release-requires-clause-place g c).After-item-r)

pub direct_release-requires-clause-view : goal.direct_release-requires-clause-view
direct_release-requires-clause-view g c =
    let k = c.requires.view in
    let is = ap (λ (y : SeatView g.row.K.Denot). y.view) c.loop-i.invariant.gives.seat in
    record {
      granted = ap (λ (y : View). y.gate.granted) is ∙ k.granted;
      algorithm = ap (λ (y : View). has_records y.gate.algorithm) is ∙ k.algorithm;
      entered = ap (λ (y : View). y.attempt.entered) is ∙ k.entered;
      held = next g (goal.at.direct_release-requires-clause-view g c).After-item-r;
      time = k.time ∙ sym (ap (λ (y : View). y.attempt.start) is);
    }

pub loop-i-preserved : goal.loop-i-preserved
loop-i-preserved g c =
    let i = c.loop-i.invariant in
    let s = c.loop-i.seat.me.0 in
    let t = c.direct_release.new.seat.me.0 in
    let e = c.direct_release.ensures in
    let low : c.loop-i.i < length c.args.local.now.locks.items = omega
    (arith, c.loop-i-test.true, c.count-i-end.ensures.count) in
    record {
      table = e.same.0 ∙ i.table;
      id = e.same.1 ∙ i.id;
      bare = e.same.2 ∙ i.bare;
      gives = gives-more _ _ _ _ s i.gives c.item-r.result low c.count-i-end.ensures.once c.item-r.ensures t c.args.time
          (ap (λ (y : SeatView g.row.K.Denot). y.view.owned.held) e.step.3)
          (direct-step c.args.seat.now.me.0 s t i.gives.more c.item-r.result.0 c.args.time (free_record c.args.time)
          e.step.0 i.gives.seat e.step.3);
    }

pub returns-clause-releases : goal.returns-clause-releases
returns-clause-releases g c = gives-all _ _ _ _ _ c.loop-i.invariant.gives
    (omega (arith, c.loop-i-test.false, c.count-i-end.ensures.count))

pub returns-clause-steps : goal.returns-clause-steps
returns-clause-steps g c =
    let q = c.loop-i.invariant.gives.steps in
    let most : c.loop-i.i ≤ length c.args.local.now.locks.items = omega
    (arith, c.loop-i.auto.i-end, c.count-i-end.ensures) in
    omega arith
