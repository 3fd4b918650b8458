use Rattle.std.proofs.Common.{length, ℕ, ◌≡◌, ◌<◌, [], ◌∷◌, refl, sym, ap, ◌∙◌, subst, arith, List}
use Rattle.std.specs.Prelude.{None}
use Rattle.rule_base.specs.declared.layout.At.TheVariants.{Slot}
use Rattle.rule_base.specs.declared.layout.TheConstants.{SLOT_WORDS}
use Rattle.rule_base.specs.declared.seats.SeatView.{SeatView}
use Rattle.rule_base.specs.declared.views.Act.TheVariants.{Store}
use Rattle.rule_base.specs.declared.views.View.{View}
use Rattle.rule_base.specs.StepKinds.{Tells, view_after}
use Rattle.rule_ring.specs.RingSteps.{ring_slot, ring_enter, CanRingSlot, CanRingEnter, RingEnters}
use Rattle.rule_ring.specs.SlotFilter.{slot_filter}
use Rattle.rule_ring.specs.Slots.{slot_place}
use Rattle.rule_base.specs.declared.entries.Cell.{Cell}
use Rattle.stm_rule.specs.Kinds.Lifting.{AreSpared}
use Rattle.stm_rule.specs.Kept.{good_of}
use Rattle.stm_rule.specs.RecordsKept.{Apart, cells_of}
use Rattle.stm_rule.proofs.StandLemmas.{tells-of}
use Rattle.alg_ring.proofs.Entering.{slotted_at, may-slot, may-enter, tells-entered}
use Rattle.alg_ring.proofs.ring.enter.Goals as goal

pub loop-i-init : goal.loop-i-init
loop-i-init g c = let v = c.args.seat.now.me.0.view in record {
  table = refl;
  id = refl;
  bare = refl;
  writes = v.ring_commit.writes;
  steps = omega arith;
  more = [];
  same = λ z. absurd (omega arith);
  seat = λ j. record c.args.seat.now.me.0 { view = slotted_at v (c.requires.enter.unslotted j) v.ring_commit.writes [] };
}

pub slot-requires-clause-seat : goal.slot-requires-clause-seat
slot-requires-clause-seat g c = let i = c.loop-i.invariant in (i.table ∙ c.requires.seat.0, ap (λ (y : SeatView g.row.K.Denot). y.who.role) i.seat ∙ c.requires.seat.1)

pub slot-requires-clause-word : goal.slot-requires-clause-word
slot-requires-clause-word g c = let low : c.loop-i.i < SLOT_WORDS = (let a = c.loop-i-test.true in omega arith) in c.word.ensures ∙ c.requires.enter.stored c.loop-i.i low

pub slot-requires-clause-view : goal.slot-requires-clause-view
slot-requires-clause-view g c =
    let low : c.loop-i.i < SLOT_WORDS = (let a = c.loop-i-test.true in omega arith) in
    subst (CanRingSlot c.args.time c.loop-i.i (cells_of c.args.local.now.writes.items)) (sym (ap (λ (y : SeatView g.row.K.Denot). y.view) c.loop-i.invariant.seat))
    (may-slot (g.K.MemRule.good c.args.stm.now.rule) c.args.stm.now.config c.args.time c.args.local.now c.args.seat.now.me.0.view
    c.requires.enter c.loop-i.i c.loop-i.invariant.writes c.loop-i.invariant.more low c.loop-i.invariant.same)

pub loop-i-preserved : goal.loop-i-preserved
loop-i-preserved g c =
    let same = c.slot.ensures.same in
    record {
      table = same.0 ∙ c.loop-i.invariant.table;
      id = same.1 ∙ c.loop-i.invariant.id;
      steps = (let l = ap (λ (y : SeatView g.row.K.Denot). length y.view.steps.step_trace) c.slot.ensures.step.3 in let q = c.loop-i.invariant.steps in omega arith);
      bare = same.2 ∙ c.loop-i.invariant.bare;
      writes = (cells_of c.args.local.now.writes.items);
      more =
          record {
            place = Slot (slot_place c.args.stm.now.config.ring c.args.time c.loop-i.i);
            act = Store (slot_filter.word (cells_of c.args.local.now.writes.items) c.loop-i.i);
            found = None;
          } ∷ c.loop-i.invariant.more;
      same = λ z. refl;
      seat =
          c.slot.ensures.step.3
          ∙ ap (λ (y : SeatView g.row.K.Denot).
          record y {
            view = view_after
                (ring_slot slot_filter c.args.stm.now.config.ring c.args.time c.loop-i.i (cells_of c.args.local.now.writes.items))
                c.slot.ensures.step.0 y.view c.word.result;
          }) c.loop-i.invariant.seat;
    }

pub enter-requires-clause-seat : goal.enter-requires-clause-seat
enter-requires-clause-seat g c = let i = c.loop-i.invariant in (i.table ∙ c.requires.seat.0, ap (λ (y : SeatView g.row.K.Denot). y.who.role) i.seat ∙ c.requires.seat.1)

pub enter-requires-clause-view : goal.enter-requires-clause-view
enter-requires-clause-view g c =
    let all : c.loop-i.i ≡ SLOT_WORDS = (let a = c.loop-i-test.false in let b = c.loop-i.auto.i-end in omega arith) in
    subst (CanRingEnter (good_of g.K.MemRule.good c.args.stm.now.config c.args.stm.now.rule) c.args.stm.now.config.words c.args.time)
    (sym (ap (λ (y : SeatView g.row.K.Denot). y.view) c.loop-i.invariant.seat
    ∙ ap (λ (k : ℕ). slotted_at c.args.seat.now.me.0.view k c.loop-i.invariant.writes c.loop-i.invariant.more) all))
    (may-enter (g.K.MemRule.good c.args.stm.now.rule) c.args.stm.now.config c.args.time c.args.local.now c.args.seat.now.me.0.view
    c.requires.enter c.loop-i.invariant.writes c.loop-i.invariant.more (c.loop-i.invariant.same (omega arith)))

pub enter-requires-clause-spared : goal.enter-requires-clause-spared
enter-requires-clause-spared g c =
    let all : c.loop-i.i ≡ SLOT_WORDS = (let a = c.loop-i-test.false in let b = c.loop-i.auto.i-end in omega arith) in
    subst (λ (y : View). AreSpared y.ring_commit.writes y)
    (sym (ap (λ (y : SeatView g.row.K.Denot). y.view) c.loop-i.invariant.seat
    ∙ ap (λ (k : ℕ). slotted_at c.args.seat.now.me.0.view k c.loop-i.invariant.writes c.loop-i.invariant.more) all))
    (subst (λ (cs : List Cell). Apart c.args.seat.now.me.0.view.gate.fence cs) (c.loop-i.invariant.same (omega arith)) c.requires.enter.spared)

pub returns-clause-same : goal.returns-clause-same
returns-clause-same g c = (
  (
    c.enter.ensures.same.0 ∙ c.loop-i.invariant.table,
    c.enter.ensures.same.1 ∙ c.loop-i.invariant.id,
    c.enter.ensures.same.2 ∙ c.loop-i.invariant.bare,
  ),
  c.enter.ensures.step.3
      ∙ (ap (λ (y : SeatView g.row.K.Denot).
      record y { view = view_after (ring_enter c.args.caller c.args.time) c.enter.ensures.step.0 c.loop-i.seat.me.0.view c.args.time })
      c.loop-i.invariant.seat
      ∙ ap (λ (w : View). record c.args.seat.now.me.0 { view = w })
      (sym (ap (λ (y : SeatView g.row.K.Denot). y.view) c.enter.ensures.step.3))),
)

pub returns-clause-enters : goal.returns-clause-enters
returns-clause-enters g c =
    let rule = good_of g.K.MemRule.good c.args.stm.now.config c.args.stm.now.rule in
    let all : c.loop-i.i ≡ SLOT_WORDS = (let a = c.loop-i-test.false in let b = c.loop-i.auto.i-end in omega arith) in
    tells-entered (g.K.MemRule.good c.args.stm.now.rule) c.args.stm.now.config c.args.time c.args.local.now c.args.seat.now.me.0.view
    c.requires.enter c.args.caller c.loop-i.invariant.writes c.loop-i.invariant.more c.enter.new.seat.me.0.view
    (c.loop-i.invariant.same (omega arith))
    (subst (λ (y : View).
    Tells (ring_enter c.args.caller c.args.time) (RingEnters rule c.args.stm.now.config c.args.caller c.args.time) y c.args.time
    c.enter.new.seat.me.0.view)
    (ap (λ (y : SeatView g.row.K.Denot). y.view) c.loop-i.invariant.seat
    ∙ ap (λ (k : ℕ). slotted_at c.args.seat.now.me.0.view k c.loop-i.invariant.writes c.loop-i.invariant.more) all)
    (tells-of (ring_enter c.args.caller c.args.time) (RingEnters rule c.args.stm.now.config c.args.caller c.args.time) _ _ _ c.enter.ensures.step))
