use Rattle.std.proofs.Common.{ℕ, ◌<◌, List, [], ◌∷◌, length, refl, sym, ap, ◌∙◌, subst, arith}
use Rattle.std.specs.Prelude.{None}
use Rattle.rule_base.specs.declared.entries.Cell.{Cell}
use Rattle.rule_base.specs.declared.layout.At.TheVariants.{Heap}
use Rattle.rule_base.specs.declared.seats.SeatView.{SeatView}
use Rattle.rule_base.specs.declared.views.Act.TheVariants.{Store}
use Rattle.rule_base.specs.declared.views.View.{View}
use Rattle.rule_base.specs.StepKinds.{view_after}
use Rattle.rule_ring.specs.RingSteps.{ring_write, CanRingWrite}
use Rattle.stm_rule.specs.RecordsKept.{cells_of}
use Rattle.alg_ring.proofs.Buffering.{next-back, drop-all, back_at, sub-inside}
use Rattle.alg_ring.proofs.ring.write_back.Goals as goal

pub loop-i-init : goal.loop-i-init
loop-i-init g c = let v = c.args.seat.now.me.0.view in record {
  table = refl;
  id = refl;
  bare = refl;
  steps = omega arith;
  more = [];
  seat = λ i. record c.args.seat.now.me.0 { view = back_at v (c.requires.back.back i) [] };
}

pub write_back-requires-clause-seat : goal.write_back-requires-clause-seat
write_back-requires-clause-seat g c = let i = c.loop-i.invariant in (i.table ∙ c.requires.seat.0, ap (λ (y : SeatView g.row.K.Denot). y.who.role) i.seat ∙ c.requires.seat.1)

pub write_back-requires-clause-place : goal.write_back-requires-clause-place
write_back-requires-clause-place g c =
    let low : c.loop-i.i < length c.args.writes.now.items = omega (arith, c.loop-i-test.true, c.count-i-end.ensures.count) in
    c.requires.back.inside c.item-a.result.0 (sub-inside c.args.writes.now.items c.loop-i.i c.item-a.result.0 (next-back c.args.writes.now.items c.loop-i.i c.item-a.result low c.requires.back.once c.item-a.ensures).0)

pub write_back-requires-clause-view : goal.write_back-requires-clause-view
write_back-requires-clause-view g c =
    let low : c.loop-i.i < length c.args.writes.now.items = omega (arith, c.loop-i-test.true, c.count-i-end.ensures.count) in
    let p = next-back c.args.writes.now.items c.loop-i.i c.item-a.result low c.requires.back.once c.item-a.ensures in
    subst (CanRingWrite c.item-a.result.0 c.item-a.result.1) (sym (ap (λ (y : SeatView g.row.K.Denot). y.view) c.loop-i.invariant.seat)) (record {
      entered =
          record {
            runs = record {
              phase = c.requires.back.entered.runs.phase;
              algorithm = c.requires.back.entered.runs.algorithm;
              plain = c.requires.back.entered.runs.plain;
            };
            committed = c.requires.back.entered.committed;
            unfinished = c.requires.back.entered.unfinished;
          };
      owed = p.0;
      value = p.1;
    })

pub loop-i-preserved : goal.loop-i-preserved
loop-i-preserved g c =
    let low : c.loop-i.i < length c.args.writes.now.items = omega (arith, c.loop-i-test.true, c.count-i-end.ensures.count) in
    record {
      table = c.write_back.ensures.same.0 ∙ c.loop-i.invariant.table;
      id = c.write_back.ensures.same.1 ∙ c.loop-i.invariant.id;
      steps = (let l = ap (λ (y : SeatView g.row.K.Denot). length y.view.steps.step_trace) c.write_back.ensures.step.3 in let q = c.loop-i.invariant.steps in omega arith);
      bare = c.write_back.ensures.same.2 ∙ c.loop-i.invariant.bare;
      more = record { place = Heap c.item-a.result.0; act = Store c.item-a.result.1; found = None } ∷ c.loop-i.invariant.more;
      seat = c.write_back.ensures.step.3 ∙ (ap (λ (y : SeatView g.row.K.Denot).
          record y
          { view = view_after (ring_write c.item-a.result.0 c.item-a.result.1) c.write_back.ensures.step.0 y.view c.item-a.result.1 })
          c.loop-i.invariant.seat
          ∙ ap
          (λ (cs : List Cell).
          record c.args.seat.now.me.0 {
            view = back_at c.args.seat.now.me.0.view cs
                (record { place = Heap c.item-a.result.0; act = Store c.item-a.result.1; found = None } ∷ c.loop-i.invariant.more);
          })
          (next-back c.args.writes.now.items c.loop-i.i c.item-a.result low c.requires.back.once c.item-a.ensures).2);
    }

pub returns-clause-same : goal.returns-clause-same
returns-clause-same g c = let i = c.loop-i.invariant in ((i.table, i.id, i.bare), i.seat ∙ ap (λ (w : View). record c.args.seat.now.me.0 { view = w }) (sym (ap (λ (y : SeatView g.row.K.Denot). y.view) i.seat)))

pub returns-clause-back : goal.returns-clause-back
returns-clause-back g c =
    record {
      more = c.loop-i.invariant.more;
      is =
          ap (λ (y : SeatView g.row.K.Denot). y.view) c.loop-i.invariant.seat
          ∙ ap (λ (l : List (ℕ × ℕ)). back_at c.args.seat.now.me.0.view (cells_of l) c.loop-i.invariant.more)
          (drop-all c.args.writes.now.items c.loop-i.i (omega (arith, c.loop-i-test.false, c.count-i-end.ensures.count)));
    }
