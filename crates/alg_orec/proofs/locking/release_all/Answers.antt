use Rattle.std.proofs.Common.{◌≤◌, ◌≡◌, ◌<◌, List, length, refl, sym, ap, ◌∙◌, subst, arith, true}
use Rattle.rule_base.specs.declared.entries.Cell.{Cell}
use Rattle.rule_base.specs.declared.seats.SeatView.{SeatView}
use Rattle.rule_base.specs.declared.views.View.{View}
use Rattle.rule_base.specs.Encodings.{free_record}
use Rattle.rule_base.specs.History.{touches}
use Rattle.rule_orec.specs.OrecSteps.{HasOrec}
use Rattle.alg_orec.proofs.Releasing.{released-step, gives-none, next-held, gives-more, gives-all}
use Rattle.alg_orec.proofs.locking.release_all.Goals.{After-item-r}
use Rattle.alg_orec.proofs.locking.release_all.Goals as goal

pub loop-i-init : goal.loop-i-init
loop-i-init g c = record {
  table = refl;
  id = refl;
  bare = refl;
  gives = gives-none _ _ _ c.requires.view.locks
      c.requires.view.places;
}

-- the record that is given back is held
next : (g : _) (c : After-item-r g) → touches c.loop-i.seat.me.0.view.owned.held c.item-r.result.0 ≡ true
next g c = next-held _ _ _ _ _ c.loop-i.invariant.gives _
    (omega (arith, c.loop-i-test.true, c.count-i-end.ensures.count)) c.count-i-end.ensures.once c.item-r.ensures

pub release-requires-clause-place : goal.release-requires-clause-place
release-requires-clause-place g c = c.loop-i.invariant.gives.places c.item-r.result.0
    (next g (goal.at.release-requires-clause-place g c).After-item-r)

pub release-requires-clause-view : goal.release-requires-clause-view
release-requires-clause-view g c =
    let k = c.requires.view in
    let is = ap (λ (y : SeatView g.row.K.Denot). y.view) c.loop-i.invariant.gives.seat in
    record {
      gives = record {
        has = subst HasOrec (sym is)
            (record {
              runs = record { phase = k.has.runs.phase; algorithm = k.has.runs.algorithm; plain = k.has.runs.plain };
              inside = k.has.inside;
            });
        held = next g (goal.at.release-requires-clause-view g c).After-item-r;
        clear = record {
          back = λ a e. ap (λ (y : View). touches y.owned.back a) is ∙ ap (λ (cs : List Cell). touches cs a) k.repaid;
          undo = λ a e. ap (λ (y : View). touches y.owned.undo a) is ∙ ap (λ (cs : List Cell). touches cs a) k.undone;
        };
      };
      done = ap (λ (y : View). y.owned.committed) is ∙ k.committed;
      time = k.time ∙ sym (ap (λ (y : View). y.owned.time) is);
    }

pub loop-i-preserved : goal.loop-i-preserved
loop-i-preserved g c =
    let i = c.loop-i.invariant in
    let s = c.loop-i.seat.me.0 in
    let t = c.release.new.seat.me.0 in
    let e = c.release.ensures in
    let low : c.loop-i.i < length c.args.local.now.locks.items = omega
    (arith, c.loop-i-test.true, c.count-i-end.ensures.count) in
    record {
      table = e.same.0 ∙ i.table;
      id = e.same.1 ∙ i.id;
      bare = e.same.2 ∙ i.bare;
      gives = gives-more _ _ _ _ s i.gives c.item-r.result low c.count-i-end.ensures.once c.item-r.ensures t c.args.time
          (ap (λ (y : SeatView g.row.K.Denot). y.view.owned.held) e.step.3)
          (released-step c.args.seat.now.me.0 s t i.gives.more c.item-r.result.0 c.args.time (free_record c.args.time)
          e.step.0 i.gives.seat e.step.3);
    }

pub returns-clause-releases : goal.returns-clause-releases
returns-clause-releases g c = gives-all _ _ _ _ _ c.loop-i.invariant.gives
    (omega (arith, c.loop-i-test.false, c.count-i-end.ensures.count))

pub returns-clause-steps : goal.returns-clause-steps
returns-clause-steps g c =
    let q = c.loop-i.invariant.gives.steps in
    let most : c.loop-i.i ≤ length c.args.local.now.locks.items = omega
    (arith, c.loop-i.auto.i-end, c.count-i-end.ensures) in
    omega arith
