use Rattle.std.proofs.Common.{ℕ, ◌<◌, List, [], ◌∷◌, length, refl, sym, ap, ◌∙◌, subst, arith}
use Rattle.std.specs.Prelude.{None}
use Rattle.rule_base.specs.Encodings.{fenced}
use Rattle.rule_base.specs.declared.entries.Cell.{Cell}
use Rattle.rule_base.specs.declared.layout.At.TheVariants.{Heap}
use Rattle.rule_base.specs.declared.seats.SeatView.{SeatView}
use Rattle.rule_base.specs.declared.views.Act.TheVariants.{Store}
use Rattle.rule_base.specs.declared.views.View.{View}
use Rattle.rule_base.specs.StepKinds.{view_after}
use Rattle.rule_promoted.specs.PromotedSteps.{direct_store, CanDirectStore}
use Rattle.stm_rule.specs.RecordsKept.{cells_of}
use Rattle.alg_ring.proofs.Buffering.{next-stored, take-all, item-inside, stored_at}
use Rattle.alg_ring.proofs.ring.store_all.Goals as goal

pub loop-i-init : goal.loop-i-init
loop-i-init g c = record { table = refl; id = refl; bare = refl; steps = omega arith; more = []; seat = refl }

pub direct_store-requires-clause-seat : goal.direct_store-requires-clause-seat
direct_store-requires-clause-seat g c = let i = c.loop-i.invariant in (i.table ∙ c.requires.seat.0, ap (λ (y : SeatView g.row.K.Denot). y.who.role) i.seat ∙ c.requires.seat.1)

pub direct_store-requires-clause-view : goal.direct_store-requires-clause-view
direct_store-requires-clause-view g c =
    let low : c.loop-i.i < length c.args.writes.now.items = omega (arith, c.loop-i-test.true, c.count-i-end.ensures.count) in
    subst (CanDirectStore c.args.stm.now.config.words c.item-a.result.0 c.item-a.result.1) (sym (ap (λ (y : SeatView g.row.K.Denot). y.view) c.loop-i.invariant.seat)) (record {
      granted = c.requires.granted;
      inside = c.requires.inside c.item-a.result.0 (item-inside c.args.writes.now.items c.loop-i.i c.item-a.result low c.item-a.ensures);
      small = omega arith;
    })

pub direct_store-requires-clause-spared : goal.direct_store-requires-clause-spared
direct_store-requires-clause-spared g c =
    let low : c.loop-i.i < length c.args.writes.now.items = omega (arith, c.loop-i-test.true, c.count-i-end.ensures.count) in
    ap (λ (y : SeatView g.row.K.Denot). fenced y.view.gate.fence c.item-a.result.0) c.loop-i.invariant.seat
    ∙ c.requires.spared c.item-a.result.0 (item-inside c.args.writes.now.items c.loop-i.i c.item-a.result low c.item-a.ensures)

pub loop-i-preserved : goal.loop-i-preserved
loop-i-preserved g c =
    let low : c.loop-i.i < length c.args.writes.now.items = omega (arith, c.loop-i-test.true, c.count-i-end.ensures.count) in
    record {
      table = c.direct_store.ensures.same.0 ∙ c.loop-i.invariant.table;
      id = c.direct_store.ensures.same.1 ∙ c.loop-i.invariant.id;
      steps = (let l = ap (λ (y : SeatView g.row.K.Denot). length y.view.steps.step_trace) c.direct_store.ensures.step.3 in let q = c.loop-i.invariant.steps in omega arith);
      bare = c.direct_store.ensures.same.2 ∙ c.loop-i.invariant.bare;
      more = record { place = Heap c.item-a.result.0; act = Store c.item-a.result.1; found = None } ∷ c.loop-i.invariant.more;
      seat = c.direct_store.ensures.step.3 ∙ (ap (λ (y : SeatView g.row.K.Denot).
          record y
          { view = view_after (direct_store c.item-a.result.0 c.item-a.result.1) c.direct_store.ensures.step.0 y.view c.item-a.result.1 })
          c.loop-i.invariant.seat
          ∙ ap
          (λ (cs : List Cell).
          record c.args.seat.now.me.0 {
            view = stored_at c.args.seat.now.me.0.view cs
                (record { place = Heap c.item-a.result.0; act = Store c.item-a.result.1; found = None } ∷ c.loop-i.invariant.more);
          })
          (next-stored c.args.writes.now.items c.loop-i.i c.item-a.result low c.item-a.ensures));
    }

pub returns-clause-same : goal.returns-clause-same
returns-clause-same g c = let i = c.loop-i.invariant in ((i.table, i.id, i.bare), i.seat ∙ ap (λ (w : View). record c.args.seat.now.me.0 { view = w }) (sym (ap (λ (y : SeatView g.row.K.Denot). y.view) i.seat)))

pub returns-clause-stores : goal.returns-clause-stores
returns-clause-stores g c =
    record {
      more = c.loop-i.invariant.more;
      is =
          ap (λ (y : SeatView g.row.K.Denot). y.view) c.loop-i.invariant.seat
          ∙ ap (λ (l : List (ℕ × ℕ)). stored_at c.args.seat.now.me.0.view (cells_of l) c.loop-i.invariant.more)
          (take-all c.args.writes.now.items c.loop-i.i (omega (arith, c.loop-i-test.false, c.count-i-end.ensures.count)));
    }
