use Rattle.std.proofs.Common.{◌≤◌, ◌≡◌, ◌<◌, List, [], ◌∷◌, length, refl, sym, ap, ◌∙◌, subst, arith}
use Rattle.rule_base.specs.declared.entries.Cell.{Cell}
use Rattle.rule_base.specs.declared.seats.SeatView.{SeatView}
use Rattle.rule_base.specs.Bridge.{items}
use Rattle.rule_base.specs.History.{without}
use Rattle.rule_orec.specs.OrecSteps.{HasOrec}
use Rattle.stm_gate.proofs.Peeling.{drop-all, peeled, no-items}
use Rattle.stm_gate.proofs.Cells.{items-cells, cells-there}
use Rattle.alg_orec.proofs.Writing.{owing, store_item, written-step}
use Rattle.alg_orec.proofs.locking.write_back_all.Goals as goal

pub loop-i-init : goal.loop-i-init
loop-i-init g c = let k = c.requires.view in record {
  table = refl;
  id = refl;
  steps = omega arith;
  bare = refl;
  more = [];
  seat = refl;
  left = ap items k.back ∙ items-cells c.args.local.now.writes.items c.count-i-end.ensures.once;
}

pub write_back-requires-clause-place : goal.write_back-requires-clause-place
write_back-requires-clause-place g c =
    let k = c.requires.view in
    let low : c.loop-i.i < length c.args.local.now.writes.items = omega (arith, c.loop-i-test.true, c.count-i-end.ensures.count) in
    k.inside c.item-a.result.0 (rw c.item-a.ensures (cells-there c.args.local.now.writes.items c.loop-i.i low))

pub write_back-requires-clause-view : goal.write_back-requires-clause-view
write_back-requires-clause-view g c =
    let k = c.requires.view in
    let i = c.loop-i.invariant in
    let low : c.loop-i.i < length c.args.local.now.writes.items = omega (arith, c.loop-i-test.true, c.count-i-end.ensures.count) in
    let p = peeled c.args.local.now.writes.items c.loop-i.i c.loop-i.seat.me.0.view.owned.back c.item-a.result low c.count-i-end.ensures.once i.left c.item-a.ensures in
    let is = ap (λ (y : SeatView g.row.K.Denot). y.view) i.seat in
    record {
      has = subst HasOrec (sym is) (record { runs = record { phase = k.has.runs.phase; algorithm = k.has.runs.algorithm; plain = k.has.runs.plain }; inside = k.has.inside });
      owed = p.0;
      value = p.1;
    }

pub loop-i-preserved : goal.loop-i-preserved
loop-i-preserved g c =
    let i = c.loop-i.invariant in
    let s = c.loop-i.seat.me.0 in
    let t = c.write_back.new.seat.me.0 in
    let step = c.write_back.ensures.step in
    let same = c.write_back.ensures.same in
    let a = c.item-a.result.0 in
    let low : c.loop-i.i < length c.args.local.now.writes.items = omega (arith, c.loop-i-test.true, c.count-i-end.ensures.count) in
    let p = peeled c.args.local.now.writes.items c.loop-i.i s.view.owned.back c.item-a.result low c.count-i-end.ensures.once i.left c.item-a.ensures in
    let back : t.view.owned.back ≡ without s.view.owned.back a = ap (λ (y : SeatView g.row.K.Denot). y.view.owned.back) step.3 in
    record {
      table = same.0 ∙ i.table;
      id = same.1 ∙ i.id;
      steps = (let l = ap (λ (y : SeatView g.row.K.Denot). length y.view.steps.step_trace) step.3 in let q = i.steps in omega arith);
      bare = same.2 ∙ i.bare;
      more = store_item a c.item-a.result.1 ∷ i.more;
      seat = written-step c.args.seat.now.me.0 s t i.more a c.item-a.result.1 step.0 i.seat step.3;
      left = ap items back ∙ p.2;
    }

pub returns-clause-pays : goal.returns-clause-pays
returns-clause-pays g c =
    let i = c.loop-i.invariant in
    let s = c.loop-i.seat.me.0.view in
    let none = no-items s.owned.back (i.left ∙ drop-all c.args.local.now.writes.items c.loop-i.i (omega (arith, c.loop-i-test.false, c.count-i-end.ensures.count))) in
    record { more = i.more; is = ap (λ (y : SeatView g.row.K.Denot). y.view) i.seat ∙ ap (λ (cs : List Cell). owing c.args.seat.now.me.0.view cs i.more) none }

pub returns-clause-steps : goal.returns-clause-steps
returns-clause-steps g c =
    let q = c.loop-i.invariant.steps in
    let k = c.count-i-end.ensures in let most : c.loop-i.i ≤ c.args.local.now.writes.len = omega (arith, c.loop-i.auto.i-end, k) in
    omega arith
