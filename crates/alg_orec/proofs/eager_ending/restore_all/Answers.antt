use Rattle.std.proofs.Common.{◌≤◌, ◌≡◌, List, [], ◌∷◌, length, refl, sym, ap, ◌∙◌, subst, arith, true, ◌+◌}
use Rattle.rule_base.specs.declared.entries.Cell.{Cell}
use Rattle.rule_base.specs.declared.seats.SeatView.{SeatView}
use Rattle.rule_base.specs.declared.views.View.{View}
use Rattle.rule_base.specs.History.{over, touches, without}
use Rattle.rule_orec.specs.OrecSteps.{HasOrec}
use Rattle.stm_gate.proofs.Peeling.{has-touched}
use Rattle.stm_answers.specs.Causes.{has_item}
use Rattle.alg_orec.specs.EagerEnding.{restoring}
use Rattle.alg_orec.proofs.Eager.EagerReleasing.{IsAhead, ahead-more, ahead-none, old-value, restore_item, restored-step}
use Rattle.alg_orec.proofs.eager_ending.restore_all.Goals.{After-item-a}
use Rattle.alg_orec.proofs.eager_ending.restore_all.Goals as goal

-- the next item's old value is what is to be restored
next : (g : _) (c : After-item-a g) → (touches c.args.seat.now.me.0.view.owned.undo c.item-a.result.0 ≡ true) × (c.item-a.result.1 ≡ over c.args.seat.now.me.0.view.owned.undo c.item-a.result.0 0)
next g c =
    old-value c.args.local.now.undo.items c.loop-i.i c.args.seat.now.me.0.view.owned.undo c.item-a.result
    (omega (arith, c.loop-i-test.true, c.count-i-end.ensures.count)) c.count-i-end.ensures.once c.requires.view.undo c.item-a.ensures

pub loop-i-init : goal.loop-i-init
loop-i-init g c = let k = c.requires.view in record {
  table = refl;
  id = refl;
  bare = refl;
  more = [];
  seat = refl;
  ahead = λ a t. ap (has_item a) k.undo ∙ (sym (has-touched a c.args.seat.now.me.0.view.owned.undo) ∙ k.undoable a t);
  steps = omega arith;
}

pub restore-requires-clause-place : goal.restore-requires-clause-place
restore-requires-clause-place g c =
    let p = next g (goal.at.restore-requires-clause-place g c).After-item-a in
    c.requires.view.words c.item-a.result.0 p.0

pub restore-requires-clause-view : goal.restore-requires-clause-view
restore-requires-clause-view g c =
    let k = c.requires.view in
    let p = next g (goal.at.restore-requires-clause-view g c).After-item-a in
    let is = ap (λ (y : SeatView g.row.K.Denot). y.view) c.loop-i.invariant.seat in
    record {
      has = subst HasOrec (sym is) (record { runs = record { phase = k.has.runs.phase; algorithm = k.has.runs.algorithm; plain = k.has.runs.plain }; inside = k.has.inside });
      logged = ap (λ (y : View). touches y.owned.undo c.item-a.result.0) is ∙ p.0;
      value = p.1 ∙ sym (ap (λ (y : View). over y.owned.undo c.item-a.result.0 0) is);
    }

pub loop-i-preserved : goal.loop-i-preserved
loop-i-preserved g c =
    let i = c.loop-i.invariant in
    let s = c.loop-i.seat.me.0 in
    let t = c.restore.new.seat.me.0 in
    let step = c.restore.ensures.step in
    let same = c.restore.ensures.same in
    let a = c.item-a.result.0 in
    let x = c.item-a.result.1 in
    let us = c.args.local.now.undo.items in
    let in_place : t.view.owned.in_place ≡ without s.view.owned.in_place a = ap (λ (y : SeatView g.row.K.Denot). y.view.owned.in_place) step.3 in
    record {
      table = same.0 ∙ i.table;
      id = same.1 ∙ i.id;
      bare = same.2 ∙ i.bare;
      more = restore_item a x ∷ i.more;
      seat = restored-step c.args.seat.now.me.0 s t i.more a x x step.0 i.seat step.3;
      ahead =
          subst (λ (cs : List Cell). IsAhead (c.loop-i.i + 1) us cs) (sym in_place)
          (ahead-more us c.loop-i.i s.view.owned.in_place c.item-a.result (omega (arith, c.loop-i-test.true, c.count-i-end.ensures.count))
          c.item-a.ensures i.ahead);
      steps = (let l = ap (λ (y : SeatView g.row.K.Denot). length y.view.steps.step_trace) step.3 in let q = i.steps in omega arith);
    }

pub returns-clause-restores : goal.returns-clause-restores
returns-clause-restores g c =
    let i = c.loop-i.invariant in
    let none = ahead-none c.args.local.now.undo.items c.loop-i.i c.loop-i.seat.me.0.view.owned.in_place (omega (arith, c.loop-i-test.false, c.count-i-end.ensures.count)) i.ahead in
    record { more = i.more; is = ap (λ (y : SeatView g.row.K.Denot). y.view) i.seat ∙ ap (λ (cs : List Cell). restoring c.args.seat.now.me.0.view cs i.more) none }

pub returns-clause-steps : goal.returns-clause-steps
returns-clause-steps g c =
    let q = c.loop-i.invariant.steps in
    let k = c.count-i-end.ensures in
    let most : c.loop-i.i ≤ c.args.local.now.undo.len = omega (arith, c.loop-i.auto.i-end, k) in
    omega arith
