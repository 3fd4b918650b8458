use Rattle.std.proofs.Common.{ℕ, ◌≡◌, ◌<◌, ◌+◌, ◌-◌, List, [], ◌∷◌, length, get_or, take, refl, sym, ap, ◌∙◌, subst, arith, inl, inr, rules, true, false}
use Rattle.std.specs.Prelude.{◌⊎◌, ◌≤◌, None}
use Rattle.stm_model.specs.Memories.{item_at, Once}
use Rattle.rule_base.specs.declared.entries.Cell.{Cell}
use Rattle.rule_base.specs.declared.seats.SeatView.{SeatView}
use Rattle.rule_base.specs.declared.views.View.{View}
use Rattle.rule_base.specs.History.{over, touches, without, Small}
use Rattle.rule_base.specs.Bridge.{items}
use Rattle.rule_base.specs.Lemmas.BridgeLemmas.{item-some}
use Rattle.rule_orec.specs.OrecSteps.{HasOrec}
use Rattle.stm_gate.proofs.Peeling.{has-touched}
use Rattle.stm_gate.proofs.RollItems.{peeled-last, take-whole, there-item}
use Rattle.stm_answers.specs.Causes.{has_item, is_some}
use Rattle.alg_orec.proofs.Eager.EagerReleasing.{restore_item, restored-step}
use Rattle.alg_orec.proofs.Eager.EagerRollingLaws.{small-without}
use Rattle.alg_orec.proofs.eager_nesting.restore_after.Goals as goal

pub loop-count-init : goal.loop-count-init
loop-count-init g c = let r = c.requires.behind in let n = c.count-count.ensures.count in record {
  table = refl;
  id = refl;
  bare = refl;
  more = [];
  seat = refl;
  in_place = sym r.placed ∙ sym (take-whole c.args.writes.now.items c.count-count.result (omega arith));
  small = r.small;
  low = inr n;
  high = omega arith;
  steps = omega arith;
}

pub restore-requires-clause-seat : goal.restore-requires-clause-seat
restore-requires-clause-seat g c = let i = c.loop-count.invariant in (i.table ∙ c.requires.seat.0, ap (λ (y : SeatView g.row.K.Denot). y.who.role) i.seat ∙ c.requires.seat.1)

pub restore-requires-clause-place : goal.restore-requires-clause-place
restore-requires-clause-place g c =
    let r = c.requires.behind in
    let p = item-some c.args.seat.now.me.0.view.owned.undo c.item-a.result.0 c.in-Some.x (sym (ap (item_at c.item-a.result.0) r.undo) ∙ search rules) in
    r.within c.item-a.result.0 p.0

pub restore-requires-clause-view : goal.restore-requires-clause-view
restore-requires-clause-view g c =
    let r = c.requires.behind in
    let h = r.has in
    let is = ap (λ (y : SeatView g.row.K.Denot). y.view) c.loop-count.invariant.seat in
    let p = item-some c.args.seat.now.me.0.view.owned.undo c.item-a.result.0 c.in-Some.x (sym (ap (item_at c.item-a.result.0) r.undo) ∙ search rules) in
    record {
      has = subst HasOrec (sym is) (record { runs = record { phase = h.runs.phase; algorithm = h.runs.algorithm; plain = h.runs.plain }; inside = h.inside });
      logged = ap (λ (y : View). touches y.owned.undo c.item-a.result.0) is ∙ p.0;
      value = sym p.1 ∙ sym (ap (λ (y : View). over y.owned.undo c.item-a.result.0 0) is);
    }

-- the word is one of those that are stored
peeled-here : (ws : List (ℕ × ℕ)) (count left : ℕ) (cs : List Cell) (a : ℕ) → left < count → count ≤ length ws → Once ws
    → items cs ≡ take count ws → a ≡ (get_or ws (count - 1) (0, 0)).0 → items (without cs a) ≡ take (count - 1) ws
peeled-here ws count left cs a above high once in_place is =
    let next : count ≡ (count - 1) + 1 = omega arith in
    (peeled-last ws (count - 1) cs a (omega arith) once (in_place ∙ ap (λ (k : ℕ). take k ws) next) is).2

pub loop-count-preserved-in-Some : goal.loop-count-preserved-in-Some
loop-count-preserved-in-Some g c =
    let i = c.loop-count.invariant in
    let s = c.loop-count.seat.me.0 in
    let t = c.restore.new.seat.me.0 in
    let step = c.restore.ensures.step in
    let same = c.restore.ensures.same in
    let a = c.item-a.result.0 in
    let x = c.in-Some.x in
    let above : c.args.left < c.loop-count.count = c.loop-count-test.true in
    let in_place : t.view.owned.in_place ≡ without s.view.owned.in_place a = ap (λ (y : SeatView g.row.K.Denot). y.view.owned.in_place) step.3 in
    record {
      table = same.0 ∙ i.table;
      id = same.1 ∙ i.id;
      bare = same.2 ∙ i.bare;
      more = restore_item a x ∷ i.more;
      seat = restored-step c.args.seat.now.me.0 s t i.more a x x step.0 i.seat step.3;
      in_place =
          ap items in_place
          ∙ peeled-here c.args.writes.now.items c.loop-count.count c.args.left s.view.owned.in_place a above i.high
          c.count-count.ensures.once i.in_place (ap (λ (q : ℕ × ℕ). q.0) c.item-a.ensures);
      small = subst Small (sym in_place) (small-without a s.view.owned.in_place i.small);
      low = inl (omega arith);
      high = (let h = i.high in omega arith);
      steps = (let l = ap (λ (y : SeatView g.row.K.Denot). length y.view.steps.step_trace) step.3 in let h = i.steps in omega arith);
    }

-- each has its old value
pub loop-count-preserved : goal.loop-count-preserved
loop-count-preserved g c =
    let r = c.requires.behind in
    let last = c.loop-count.count - 1 in
    let above : c.args.left < c.loop-count.count = c.loop-count-test.true in
    let low : last < length c.args.writes.now.items = (let h = c.loop-count.invariant.high in omega arith) in
    let a = c.item-a.result.0 in
    let stored : has_item a c.args.writes.now.items ≡ true = there-item c.args.writes.now.items last c.item-a.result low c.item-a.ensures in
    let touched = r.undoable a (has-touched a c.args.seat.now.me.0.view.owned.in_place ∙ (ap (has_item a) (sym r.placed) ∙ stored)) in
    let saved : has_item a c.args.undo.now.items ≡ true = ap (has_item a) r.undo ∙ (sym (has-touched a c.args.seat.now.me.0.view.owned.undo) ∙ touched) in
    let none : item_at a c.args.undo.now.items ≡ None = search rules in
    absurd (let no : false ≡ true = sym (ap is_some none) ∙ saved in cc)

pub returns-clause-same : goal.returns-clause-same
returns-clause-same g c = let i = c.loop-count.invariant in ((i.table, i.id, i.bare), i.seat ∙ ap (λ (w : View). record c.args.seat.now.me.0 { view = w }) (sym (ap (λ (y : SeatView g.row.K.Denot). y.view) i.seat)))

-- so many are left
left-of : (left count : ℕ) (ws : List (ℕ × ℕ)) → (left ≤ count) ⊎ (count ≡ length ws) → count ≤ left → take count ws ≡ take left ws
left-of left count ws (inl low) done = let same : count ≡ left = omega arith in ap (λ (k : ℕ). take k ws) same
left-of left count ws (inr all) done = take-whole ws count (omega arith) ∙ sym (take-whole ws left (omega arith))

pub returns-clause-behind : goal.returns-clause-behind
returns-clause-behind g c =
    let i = c.loop-count.invariant in
    record {
      more = i.more;
      is = ap (λ (y : SeatView g.row.K.Denot). y.view) i.seat;
      in_place = i.in_place ∙ left-of c.args.left c.loop-count.count c.args.writes.now.items i.low c.loop-count-test.false;
      small = i.small;
    }
