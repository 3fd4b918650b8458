use Rattle.std.proofs.Common.{ℕ, ◌≡◌, ◌<◌, ◌≤◌, ◌+◌, ◌-◌, List, [], ◌∷◌, length, take, get_or, true, false, inl, inr, refl, sym, ap, ◌∙◌, subst, arith}
use Rattle.std.specs.Prelude.{None, min}
use Rattle.std.proofs.lemmas.Bool.{cases_lt}
use Rattle.stm_model.specs.Memories.{item_at}
use Rattle.rule_base.specs.declared.layout.At.TheVariants.{Heap}
use Rattle.rule_base.specs.declared.seats.SeatView.{SeatView}
use Rattle.rule_base.specs.declared.views.Act.TheVariants.{Store}
use Rattle.rule_base.specs.declared.views.View.{View}
use Rattle.rule_base.specs.declared.entries.Cell.{Cell}
use Rattle.rule_base.specs.History.{over, touches, without}
use Rattle.rule_base.specs.Bridge.{items}
use Rattle.rule_base.specs.Lemmas.BridgeLemmas.{items-once, item-some}
use Rattle.rule_seq.specs.CglSteps.{HasLock}
use Rattle.stm_answers.specs.Causes.{has_item, is_some}
use Rattle.stm_gate.proofs.Peeling.{has-touched}
use Rattle.stm_gate.proofs.RollItems.{peeled-last, take-whole, there-item}
use Rattle.alg_seq.proofs.Undoing.{taken-step}
use Rattle.alg_seq.proofs.nesting.store_back.Goals as goal

-- all items are among the first so many, or just these are
cut : (count left : ℕ) (zs : List (ℕ × ℕ)) → count ≤ left → min left (length zs) ≤ count → take count zs ≡ take left zs
cut count left zs below above = elim (cases_lt left (length zs)) [
  | inl l ↦ ap (λ (k : ℕ). take k zs) (omega arith)
  | inr g ↦ take-whole zs count (omega arith) ∙ sym (take-whole zs left (omega arith))
]

pub loop-count-init : goal.loop-count-init
loop-count-init g c =
    let size = c.count-count.ensures.count in
    record {
      table = refl;
      id = refl;
      bare = refl;
      more = [];
      seat = refl;
      stores = sym (take-whole (items c.args.seat.now.me.0.view.attempt.stores) c.count-count.result (let e = ap length c.requires.olds.stored in omega arith));
      low = omega arith;
      high = omega arith;
      steps = omega arith;
    }

pub store_back-requires-clause-seat : goal.store_back-requires-clause-seat
store_back-requires-clause-seat g c = let i = c.loop-count.invariant in (i.table ∙ c.requires.seat.0, ap (λ (y : SeatView g.row.K.Denot). y.who.role) i.seat ∙ c.requires.seat.1)

pub store_back-requires-clause-place : goal.store_back-requires-clause-place
store_back-requires-clause-place g c =
    c.requires.olds.within c.item-a.result.0
    (item-some c.args.seat.now.me.0.view.lock.undo c.item-a.result.0 c.in-Some.x
    (ap (item_at c.item-a.result.0) (sym c.requires.olds.undone) ∙ (sym c.find.ensures ∙ c.in-Some.is))).0

pub store_back-requires-clause-view : goal.store_back-requires-clause-view
store_back-requires-clause-view g c =
    let p = item-some c.args.seat.now.me.0.view.lock.undo c.item-a.result.0 c.in-Some.x (ap (item_at c.item-a.result.0) (sym c.requires.olds.undone) ∙ (sym c.find.ensures ∙ c.in-Some.is)) in
    let is = ap (λ (y : SeatView g.row.K.Denot). y.view) c.loop-count.invariant.seat in
    record {
      has = subst (λ (y : View). HasLock y) (sym is) (record { phase = c.requires.olds.has.phase; algorithm = c.requires.olds.has.algorithm; taken = c.requires.olds.has.taken });
      started = ap (λ (y : View). y.lock.started) is ∙ c.requires.olds.started;
      logged = ap (λ (y : View). touches y.lock.undo c.item-a.result.0) is ∙ p.0;
      value = sym p.1 ∙ sym (ap (λ (y : View). over y.lock.undo c.item-a.result.0 0) is);
    }

pub loop-count-preserved-in-Some : goal.loop-count-preserved-in-Some
loop-count-preserved-in-Some g c =
    let last = c.loop-count.count - 1 in
    let next : c.loop-count.count ≡ last + 1 = omega arith in
    let zs = items c.args.seat.now.me.0.view.attempt.stores in
    let stores : c.store_back.new.seat.me.0.view.attempt.stores ≡ without c.loop-count.seat.me.0.view.attempt.stores c.item-a.result.0 = ap
    (λ (y : SeatView g.row.K.Denot). y.view.attempt.stores) c.store_back.ensures.step.3 in
    let short : last < length zs = (let e = ap length c.requires.olds.stored in let h = c.loop-count.invariant.high in omega arith) in
    record {
      table = c.store_back.ensures.same.0 ∙ c.loop-count.invariant.table;
      id = c.store_back.ensures.same.1 ∙ c.loop-count.invariant.id;
      bare = c.store_back.ensures.same.2 ∙ c.loop-count.invariant.bare;
      more = record { place = Heap c.item-a.result.0; act = Store c.in-Some.x; found = None } ∷ c.loop-count.invariant.more;
      seat =
          taken-step c.args.seat.now.me.0 c.loop-count.seat.me.0 c.store_back.new.seat.me.0 c.loop-count.invariant.more c.item-a.result.0
          c.in-Some.x c.store_back.ensures.step.0 c.loop-count.invariant.seat c.store_back.ensures.step.3;
      stores =
          ap items stores
          ∙ (peeled-last zs last c.loop-count.seat.me.0.view.attempt.stores c.item-a.result.0 short
          (items-once c.args.seat.now.me.0.view.attempt.stores) (c.loop-count.invariant.stores ∙ ap (λ (k : ℕ). take k zs) next)
          (ap (λ (q : ℕ × ℕ). q.0) c.item-a.ensures ∙ ap (λ (ws : List (ℕ × ℕ)). (get_or ws last (0, 0)).0) c.requires.olds.stored)).2;
      low = (let h = c.loop-count-test.true in omega arith);
      high = (let h = c.loop-count.invariant.high in omega arith);
      steps = (let l = ap (λ (y : SeatView g.row.K.Denot). length y.view.steps.step_trace) c.store_back.ensures.step.3 in let h = c.loop-count.invariant.steps in omega arith);
    }

-- each word that is stored has its old value
found : (a last : ℕ) (us ws : List (ℕ × ℕ)) (w : ℕ × ℕ) (stores undo : List Cell) → us ≡ items undo → ws ≡ items stores
    → ((b : ℕ) → touches stores b ≡ true → touches undo b ≡ true) → last < length ws → w ≡ get_or ws last (0, 0) → a ≡ w.0
    → item_at a us ≡ None → ⊥
found a last us ws w stores undo u s covers low is at none =
    let here : has_item a ws ≡ true = ap (λ (k : ℕ). has_item k ws) at ∙ there-item ws last w low is in
    let there = covers a (has-touched a stores ∙ (ap (has_item a) (sym s) ∙ here)) in
    let no : false ≡ true = ap is_some (sym none) ∙ (ap (has_item a) u ∙ (sym (has-touched a undo) ∙ there)) in
    absurd cc

pub loop-count-preserved : goal.loop-count-preserved
loop-count-preserved g c =
    absurd (found c.item-a.result.0 (c.loop-count.count - 1) c.args.undo.now.items c.args.writes.now.items c.item-a.result
    c.args.seat.now.me.0.view.attempt.stores c.args.seat.now.me.0.view.lock.undo c.requires.olds.undone c.requires.olds.stored
    c.requires.olds.undoable (let h = c.loop-count.invariant.high in let t = c.loop-count-test.true in omega arith) c.item-a.ensures refl
    (sym c.find.ensures ∙ c.in_default.is))

pub returns-clause-same : goal.returns-clause-same
returns-clause-same g c = let i = c.loop-count.invariant in ((i.table, i.id, i.bare), i.seat ∙ ap (λ (w : View). record c.args.seat.now.me.0 { view = w }) (sym (ap (λ (y : SeatView g.row.K.Denot). y.view) i.seat)))

pub returns-clause-back : goal.returns-clause-back
returns-clause-back g c =
    let zs = items c.args.seat.now.me.0.view.attempt.stores in
    record {
      more = c.loop-count.invariant.more;
      is = ap (λ (y : SeatView g.row.K.Denot). y.view) c.loop-count.invariant.seat;
      stores = c.loop-count.invariant.stores ∙ cut c.loop-count.count c.args.left zs (c.loop-count-test.false) (let e = ap length c.requires.olds.stored in let h = c.loop-count.invariant.low in omega arith);
    }
