use Rattle.std.proofs.Common.{◌≡◌, ◌<◌, ◌≤◌, [], ◌∷◌, length, true, refl, sym, ap, ◌∙◌, subst, rules, arith}
use Rattle.std.specs.Prelude.{◌^◌}
use Rattle.rule_base.specs.declared.seats.SeatView.{SeatView}
use Rattle.rule_base.specs.declared.views.View.{View}
use Rattle.rule_base.specs.History.{touches, Small}
use Rattle.rule_base.specs.Lemmas.HistoryLemmas.{small-more}
use Rattle.rule_base.specs.Bridge.{items}
use Rattle.rule_orec.specs.OrecSteps.{HasOpen}
use Rattle.stm_answers.specs.Causes.{has_item}
use Rattle.stm_gate.proofs.RollItems.{there-item, stored-next, stored-all}
use Rattle.alg_orec.proofs.Eager.EagerReleasing.{restore_item}
use Rattle.alg_orec.proofs.Eager.EagerRollingLaws.{again-step}
use Rattle.alg_orec.proofs.eager_nesting.place_again.Goals as goal

pub loop-i-init : goal.loop-i-init
loop-i-init g c = record { table = refl; id = refl; bare = refl; more = []; seat = refl; in_place = refl; small = c.requires.again.small; steps = omega arith }

pub place-requires-clause-seat : goal.place-requires-clause-seat
place-requires-clause-seat g c = let i = c.loop-i.invariant in (i.table ∙ c.requires.seat.0, ap (λ (y : SeatView g.row.K.Denot). y.who.role) i.seat ∙ c.requires.seat.1)

pub place-requires-clause-place : goal.place-requires-clause-place
place-requires-clause-place g c =
    let r = c.requires.again in
    let low : c.loop-i.i < length c.args.writes.now.items = omega (arith, c.loop-i-test.true, c.count-i-end.ensures.count) in
    let here : has_item c.item-a.result.0 c.args.writes.now.items ≡ true = there-item c.args.writes.now.items c.loop-i.i c.item-a.result low c.item-a.ensures in
    r.within c.item-a.result.0 (r.undoable c.item-a.result.0 here)

pub place-requires-clause-view : goal.place-requires-clause-view
place-requires-clause-view g c =
    let i = c.loop-i.invariant in
    let r = c.requires.again in
    let o = r.opens.has in
    let is = ap (λ (y : SeatView g.row.K.Denot). y.view) i.seat in
    let low : c.loop-i.i < length c.args.writes.now.items = omega (arith, c.loop-i-test.true, c.count-i-end.ensures.count) in
    let here : has_item c.item-a.result.0 c.args.writes.now.items ≡ true = there-item c.args.writes.now.items c.loop-i.i c.item-a.result low c.item-a.ensures in
    record {
      opens = subst HasOpen (sym is) (record { has = record { runs = record { phase = o.runs.phase; algorithm = o.runs.algorithm; plain = o.runs.plain }; inside = o.inside }; open_yet = r.opens.open_yet });
      eager = ap (λ (y : View). y.owned.eager) is ∙ r.eager;
      undoable = ap (λ (y : View). touches y.owned.undo c.item-a.result.0) is ∙ r.undoable c.item-a.result.0 here;
    }

pub loop-i-preserved : goal.loop-i-preserved
loop-i-preserved g c =
    let i = c.loop-i.invariant in
    let s = c.loop-i.seat.me.0 in
    let t = c.place.new.seat.me.0 in
    let step = c.place.ensures.step in
    let same = c.place.ensures.same in
    let a = c.item-a.result.0 in
    let x = c.item-a.result.1 in
    let low : c.loop-i.i < length c.args.writes.now.items = omega (arith, c.loop-i-test.true, c.count-i-end.ensures.count) in
    let fits : x < 2 ^ 64 = search rules in
    record {
      table = same.0 ∙ i.table;
      id = same.1 ∙ i.id;
      bare = same.2 ∙ i.bare;
      steps = (let l = ap (λ (y : SeatView g.row.K.Denot). length y.view.steps.step_trace) step.3 in let q = i.steps in omega arith);
      more = restore_item a x ∷ i.more;
      seat = again-step c.args.seat.now.me.0 s t i.more a x x step.0 i.seat step.3;
      in_place = ap (λ (y : SeatView g.row.K.Denot). items y.view.owned.in_place) step.3
          ∙ stored-next c.args.writes.now.items (items c.args.seat.now.me.0.view.owned.in_place) c.loop-i.i s.view.owned.in_place
          c.item-a.result low c.count-i-end.ensures.once c.requires.again.placed i.in_place c.item-a.ensures;
      small = subst Small (sym (ap (λ (y : SeatView g.row.K.Denot). y.view.owned.in_place) step.3)) (small-more (record { at = a; value = x }) s.view.owned.in_place fits i.small);
    }

pub returns-clause-same : goal.returns-clause-same
returns-clause-same g c = let i = c.loop-i.invariant in ((i.table, i.id, i.bare), i.seat ∙ ap (λ (w : View). record c.args.seat.now.me.0 { view = w }) (sym (ap (λ (y : SeatView g.row.K.Denot). y.view) i.seat)))

pub returns-clause-again : goal.returns-clause-again
returns-clause-again g c =
    let i = c.loop-i.invariant in
    let high : length c.args.writes.now.items ≤ c.loop-i.i = omega (arith, c.loop-i-test.false, c.count-i-end.ensures.count) in
    record {
      more = i.more;
      is = ap (λ (y : SeatView g.row.K.Denot). y.view) i.seat;
      in_place = i.in_place ∙ stored-all c.args.writes.now.items (items c.args.seat.now.me.0.view.owned.in_place) c.loop-i.i high c.requires.again.placed;
      small = i.small;
    }
