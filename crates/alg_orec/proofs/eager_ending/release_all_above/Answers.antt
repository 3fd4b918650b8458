use Rattle.std.proofs.Common.{◌≤◌, ◌≡◌, ◌+◌, List, [], ◌∷◌, length, refl, sym, ap, ◌∙◌, subst, arith, drop, true}
use Rattle.stm_model.specs.declared.config.TheConstants.{CLOCK_LIMIT}
use Rattle.rule_base.specs.declared.entries.Cell.{Cell}
use Rattle.rule_base.specs.declared.seats.SeatView.{SeatView}
use Rattle.rule_base.specs.declared.views.View.{View}
use Rattle.rule_base.specs.Bridge.{items}
use Rattle.rule_base.specs.Encodings.{free_record}
use Rattle.rule_base.specs.History.{over, touches, without, Inside}
use Rattle.rule_orec.specs.OrecSteps.{HasOrec}
use Rattle.stm_gate.proofs.Peeling.{drop-all, peeled, inside-without, no-items}
use Rattle.alg_orec.specs.EagerEnding.{AllBelow}
use Rattle.alg_orec.specs.Locking.{holding_still}
use Rattle.alg_orec.proofs.Eager.EagerReleasing.{below-without}
use Rattle.alg_orec.proofs.Releasing.{release_item, released-step}
use Rattle.alg_orec.proofs.eager_ending.release_all_above.Goals.{After-item-r}
use Rattle.alg_orec.proofs.eager_ending.release_all_above.Goals as goal

-- the next item is one of those that are left
next : (g : _) (c : After-item-r g)
    → (touches c.loop-i.seat.me.0.view.owned.held c.item-r.result.0 ≡ true)
    × (c.item-r.result.1 ≡ over c.loop-i.seat.me.0.view.owned.held c.item-r.result.0 0)
    × (items (without c.loop-i.seat.me.0.view.owned.held c.item-r.result.0) ≡ drop (c.loop-i.i + 1) c.args.local.now.locks.items)
next g c =
    peeled c.args.local.now.locks.items c.loop-i.i c.loop-i.seat.me.0.view.owned.held c.item-r.result
    (omega (arith, c.loop-i-test.true, c.count-i-end.ensures.count)) c.count-i-end.ensures.once c.loop-i.invariant.left c.item-r.ensures

pub loop-i-init : goal.loop-i-init
loop-i-init g c = let k = c.requires.view in record {
  table = refl;
  id = refl;
  steps = omega arith;
  bare = refl;
  more = [];
  seat = refl;
  left = sym k.locks;
  places = k.places;
  below = k.below;
}

pub overflow_add-version : goal.overflow_add-version
overflow_add-version g c =
    let i = c.loop-i.invariant in
    let p = next g (goal.at.overflow_add-version g c).After-item-r in
    let within = i.below c.item-r.result.0 p.0 in
    let is = p.1 in
    omega arith

pub release_above-requires-clause-place : goal.release_above-requires-clause-place
release_above-requires-clause-place g c =
    let i = c.loop-i.invariant in
    let p = next g (goal.at.release_above-requires-clause-place g c).After-item-r in
    i.places c.item-r.result.0 p.0

pub release_above-requires-clause-limit : goal.release_above-requires-clause-limit
release_above-requires-clause-limit g c =
    let i = c.loop-i.invariant in
    let p = next g (goal.at.release_above-requires-clause-limit g c).After-item-r in
    let within = i.below c.item-r.result.0 p.0 in
    let is = p.1 in
    omega arith

pub release_above-requires-clause-view : goal.release_above-requires-clause-view
release_above-requires-clause-view g c =
    let k = c.requires.view in
    let i = c.loop-i.invariant in
    let p = next g (goal.at.release_above-requires-clause-view g c).After-item-r in
    let is = ap (λ (y : SeatView g.row.K.Denot). y.view) i.seat in
    record {
      gives = record {
        has = subst HasOrec (sym is) (record { runs = record { phase = k.has.runs.phase; algorithm = k.has.runs.algorithm; plain = k.has.runs.plain }; inside = k.has.inside });
        held = p.0;
        clear = record {
          back = λ a e. ap (λ (y : View). touches y.owned.back a) is ∙ ap (λ (cs : List Cell). touches cs a) k.repaid;
          undo = λ a e. ap (λ (y : View). touches y.owned.undo a) is ∙ ap (λ (cs : List Cell). touches cs a) k.undone;
        };
      };
      undone = ap (λ (y : View). y.owned.committed) is ∙ k.open_yet;
      raised = ap (λ (y : View). y.owned.raised) is ∙ k.raised;
      next = ap (λ k. k + 1) p.1;
    }

pub loop-i-preserved : goal.loop-i-preserved
loop-i-preserved g c =
    let i = c.loop-i.invariant in
    let s = c.loop-i.seat.me.0 in
    let t = c.release_above.new.seat.me.0 in
    let step = c.release_above.ensures.step in
    let same = c.release_above.ensures.same in
    let r = c.item-r.result.0 in
    let above = c.item-r.result.1 + 1 in
    let p = next g (goal.at.loop-i-preserved g c).After-item-r in
    let held : t.view.owned.held ≡ without s.view.owned.held r = ap (λ (y : SeatView g.row.K.Denot). y.view.owned.held) step.3 in
    record {
      table = same.0 ∙ i.table;
      id = same.1 ∙ i.id;
      steps = (let l = ap (λ (y : SeatView g.row.K.Denot). length y.view.steps.step_trace) step.3 in let q = i.steps in omega arith);
      bare = same.2 ∙ i.bare;
      more = release_item r above ∷ i.more;
      seat = released-step c.args.seat.now.me.0 s t i.more r above (free_record above) step.0 i.seat step.3;
      left = ap items held ∙ p.2;
      places = subst (λ (cs : List Cell). Inside c.args.stm.now.config.records cs) (sym held) (inside-without c.args.stm.now.config.records r s.view.owned.held i.places);
      below = subst (AllBelow CLOCK_LIMIT) (sym held) (below-without CLOCK_LIMIT s.view.owned.held r i.below);
    }

pub returns-clause-releases : goal.returns-clause-releases
returns-clause-releases g c =
    let i = c.loop-i.invariant in
    let s = c.loop-i.seat.me.0.view in
    let none = no-items s.owned.held (i.left ∙ drop-all c.args.local.now.locks.items c.loop-i.i (omega (arith, c.loop-i-test.false, c.count-i-end.ensures.count))) in
    record { more = i.more; is = ap (λ (y : SeatView g.row.K.Denot). y.view) i.seat ∙ ap (λ (cs : List Cell). holding_still c.args.seat.now.me.0.view cs i.more) none }

pub returns-clause-steps : goal.returns-clause-steps
returns-clause-steps g c =
    let q = c.loop-i.invariant.steps in
    let k = c.count-i-end.ensures in
    let most : c.loop-i.i ≤ length c.args.local.now.locks.items = omega (arith, c.loop-i.auto.i-end, k) in
    omega arith
