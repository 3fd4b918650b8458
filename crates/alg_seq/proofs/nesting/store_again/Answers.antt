use Rattle.std.proofs.Common.{◌≡◌, [], ◌∷◌, length, true, refl, sym, ap, ◌∙◌, subst, rules, arith}
use Rattle.std.specs.Prelude.{None}
use Rattle.rule_base.specs.declared.layout.At.TheVariants.{Heap}
use Rattle.rule_base.specs.declared.seats.SeatView.{SeatView}
use Rattle.rule_base.specs.declared.views.Act.TheVariants.{Store}
use Rattle.rule_base.specs.declared.views.View.{View}
use Rattle.rule_base.specs.Encodings.{fenced}
use Rattle.rule_base.specs.History.{touches}
use Rattle.rule_base.specs.Bridge.{items}
use Rattle.rule_seq.specs.CglSteps.{HasLock}
use Rattle.stm_answers.specs.Causes.{has_item}
use Rattle.stm_gate.proofs.RollItems.{there-item, stored-next, stored-all}
use Rattle.alg_seq.proofs.Undoing.{stored-step}
use Rattle.alg_seq.proofs.nesting.store_again.Goals as goal

pub loop-i-init : goal.loop-i-init
loop-i-init g c = record { table = refl; id = refl; bare = refl; more = []; seat = refl; stores = refl; steps = omega arith }

pub store_heap-requires-clause-seat : goal.store_heap-requires-clause-seat
store_heap-requires-clause-seat g c = let i = c.loop-i.invariant in (i.table ∙ c.requires.seat.0, ap (λ (y : SeatView g.row.K.Denot). y.who.role) i.seat ∙ c.requires.seat.1)

pub store_heap-requires-clause-view : goal.store_heap-requires-clause-view
store_heap-requires-clause-view g c =
    let is = ap (λ (y : SeatView g.row.K.Denot). y.view) c.loop-i.invariant.seat in
    let here : has_item c.item-a.result.0 c.args.writes.now.items ≡ true = there-item c.args.writes.now.items c.loop-i.i c.item-a.result
    (omega (arith, c.loop-i-test.true, c.count-i-end.ensures.count)) c.item-a.ensures in
    record {
      has = subst (λ (y : View). HasLock y) (sym is) (record { phase = c.requires.again.has.phase; algorithm = c.requires.again.has.algorithm; taken = c.requires.again.has.taken });
      started = ap (λ (y : View). y.lock.started) is ∙ c.requires.again.started;
      inside = c.requires.again.within c.item-a.result.0 (c.requires.again.undoable c.item-a.result.0 here);
      small = search rules;
      undoable = λ e. ap (λ (y : View). touches y.lock.undo c.item-a.result.0) is ∙ (c.requires.again.undoable c.item-a.result.0 here);
    }

pub store_heap-requires-clause-spared : goal.store_heap-requires-clause-spared
store_heap-requires-clause-spared g c =
    ap (λ (y : View). fenced y.gate.fence c.item-a.result.0) (ap (λ (y : SeatView g.row.K.Denot). y.view) c.loop-i.invariant.seat)
    ∙ c.requires.again.spared c.item-a.result.0
    (there-item c.args.writes.now.items c.loop-i.i c.item-a.result (omega (arith, c.loop-i-test.true, c.count-i-end.ensures.count))
    c.item-a.ensures)

pub loop-i-preserved : goal.loop-i-preserved
loop-i-preserved g c =
    record {
      table = c.store_heap.ensures.same.0 ∙ c.loop-i.invariant.table;
      id = c.store_heap.ensures.same.1 ∙ c.loop-i.invariant.id;
      bare = c.store_heap.ensures.same.2 ∙ c.loop-i.invariant.bare;
      steps = (let l = ap (λ (y : SeatView g.row.K.Denot). length y.view.steps.step_trace) c.store_heap.ensures.step.3 in let q = c.loop-i.invariant.steps in omega arith);
      more = record { place = Heap c.item-a.result.0; act = Store c.item-a.result.1; found = None } ∷ c.loop-i.invariant.more;
      seat =
          stored-step c.args.seat.now.me.0 c.loop-i.seat.me.0 c.store_heap.new.seat.me.0 c.loop-i.invariant.more c.item-a.result.0
          c.item-a.result.1 c.store_heap.ensures.step.0 c.loop-i.invariant.seat c.store_heap.ensures.step.3;
      stores = ap (λ (y : SeatView g.row.K.Denot). items y.view.attempt.stores) c.store_heap.ensures.step.3
          ∙ stored-next c.args.writes.now.items (items c.args.seat.now.me.0.view.attempt.stores) c.loop-i.i
          c.loop-i.seat.me.0.view.attempt.stores c.item-a.result (omega (arith, c.loop-i-test.true, c.count-i-end.ensures.count))
          c.count-i-end.ensures.once c.requires.again.stored c.loop-i.invariant.stores c.item-a.ensures;
    }

pub returns-clause-same : goal.returns-clause-same
returns-clause-same g c = let i = c.loop-i.invariant in ((i.table, i.id, i.bare), i.seat ∙ ap (λ (w : View). record c.args.seat.now.me.0 { view = w }) (sym (ap (λ (y : SeatView g.row.K.Denot). y.view) i.seat)))

pub returns-clause-again : goal.returns-clause-again
returns-clause-again g c =
    record {
      more = c.loop-i.invariant.more;
      is = ap (λ (y : SeatView g.row.K.Denot). y.view) c.loop-i.invariant.seat;
      stores =
          c.loop-i.invariant.stores
          ∙ stored-all c.args.writes.now.items (items c.args.seat.now.me.0.view.attempt.stores) c.loop-i.i
          (omega (arith, c.loop-i-test.false, c.count-i-end.ensures.count)) c.requires.again.stored;
    }
