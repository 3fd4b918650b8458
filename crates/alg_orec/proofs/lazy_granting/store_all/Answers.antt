use Rattle.std.proofs.Common.{ℕ, suc, ◌≡◌, ◌<◌, ◌≤◌, ◌+◌, List, [], ◌∷◌, length, take, refl, sym, ap, ◌∙◌, arith}
use Rattle.std.proofs.lemmas.List.{take_all}
use Rattle.rule_base.specs.Encodings.{fenced}
use Rattle.rule_base.specs.declared.entries.Cell.{Cell}
use Rattle.rule_base.specs.declared.seats.SeatView.{SeatView}
use Rattle.stm_rule.specs.RecordsKept.{cells_of}
use Rattle.stm_gate.proofs.Cells.{cell, cells-next, cells-there}
use Rattle.alg_orec.proofs.Writing.{storing, store_item, stored-step}
use Rattle.alg_orec.proofs.lazy_granting.store_all.Goals as goal

pub loop-i-init : goal.loop-i-init
loop-i-init g c = let k = c.requires.view in record { table = refl; id = refl; bare = refl; steps = omega arith; more = []; seat = refl; stores = k.unstored }

pub direct_store-requires-clause-view : goal.direct_store-requires-clause-view
direct_store-requires-clause-view g c =
    let k = c.requires.view in
    let i = c.loop-i.invariant in
    let low : c.loop-i.i < length c.args.local.now.writes.items = omega (arith, c.loop-i-test.true, c.count-i-end.ensures.count) in
    record {
      granted = ap (λ (y : SeatView g.row.K.Denot). y.view.gate.granted) i.seat ∙ k.granted;
      inside = k.inside c.item-a.result.0 (rw c.item-a.ensures (cells-there c.args.local.now.writes.items c.loop-i.i low));
      small = omega arith;
    }

pub direct_store-requires-clause-spared : goal.direct_store-requires-clause-spared
direct_store-requires-clause-spared g c =
    let low : c.loop-i.i < length c.args.local.now.writes.items = omega (arith, c.loop-i-test.true, c.count-i-end.ensures.count) in
    ap (λ (y : SeatView g.row.K.Denot). fenced y.view.gate.fence c.item-a.result.0) c.loop-i.invariant.seat
    ∙ c.requires.view.spared c.item-a.result.0 (rw c.item-a.ensures (cells-there c.args.local.now.writes.items c.loop-i.i low))

pub loop-i-preserved : goal.loop-i-preserved
loop-i-preserved g c =
    let i = c.loop-i.invariant in
    let s = c.loop-i.seat.me.0 in
    let t = c.direct_store.new.seat.me.0 in
    let step = c.direct_store.ensures.step in
    let same = c.direct_store.ensures.same in
    let a = c.item-a.result.0 in
    let ws = c.args.local.now.writes.items in
    let low : c.loop-i.i < length ws = omega (arith, c.loop-i-test.true, c.count-i-end.ensures.count) in
    let stores : t.view.attempt.stores ≡ record { at = a; value = c.item-a.result.1 } ∷ s.view.attempt.stores = ap (λ (y : SeatView g.row.K.Denot). y.view.attempt.stores) step.3 in
    record {
      table = same.0 ∙ i.table;
      id = same.1 ∙ i.id;
      steps = (let l = ap (λ (y : SeatView g.row.K.Denot). length y.view.steps.step_trace) step.3 in let q = i.steps in omega arith);
      bare = same.2 ∙ i.bare;
      more = store_item a c.item-a.result.1 ∷ i.more;
      seat = stored-step c.args.seat.now.me.0 s t i.more a c.item-a.result.1 step.0 i.seat step.3;
      stores =
          stores
          ∙ (ap (λ (cs : List Cell). record { at = a; value = c.item-a.result.1 } ∷ cs) i.stores
          ∙ (ap (λ (p : ℕ × ℕ). cell p ∷ cells_of (take c.loop-i.i ws)) c.item-a.ensures
          ∙ sym (ap (λ (k : ℕ). cells_of (take k ws)) (let e : c.loop-i.i + 1 ≡ suc c.loop-i.i = omega arith in e)
          ∙ cells-next ws c.loop-i.i low)));
    }

pub returns-clause-stores : goal.returns-clause-stores
returns-clause-stores g c =
    let i = c.loop-i.invariant in
    let ws = c.args.local.now.writes.items in
    let all : cells_of (take c.loop-i.i ws) ≡ cells_of ws = ap cells_of (take_all c.loop-i.i ws (omega (arith, c.loop-i-test.false, c.count-i-end.ensures.count))) in
    record { more = i.more; is = ap (λ (y : SeatView g.row.K.Denot). y.view) i.seat ∙ ap (λ (cs : List Cell). storing c.args.seat.now.me.0.view cs i.more) (i.stores ∙ all) }

pub returns-clause-steps : goal.returns-clause-steps
returns-clause-steps g c =
    let q = c.loop-i.invariant.steps in
    let k = c.count-i-end.ensures in let most : c.loop-i.i ≤ c.args.local.now.writes.len = omega (arith, c.loop-i.auto.i-end, k) in
    omega arith
