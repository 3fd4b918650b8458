use Rattle.std.proofs.Common.{length, ◌≡◌, ◌+◌, ◌*◌, refl, ap, ◌∙◌, arith, le_refl, rules}
use Rattle.std.specs.Prelude.{bit_and}
use Rattle.rule_base.specs.declared.seats.SeatView.{SeatView}
use Rattle.rule_base.specs.StepKinds.{Nothing, view_after}
use Rattle.rule_ring.specs.RingSteps.{ring_word}
use Rattle.stm_rule.proofs.StandLemmas.{tells-of}
use Rattle.alg_ring.specs.Checking.{LoadsPart}
use Rattle.alg_ring.proofs.Seats.{seat-on}
use Rattle.alg_ring.proofs.Slot.{part-first, part-next, part-found, part-last, PartSoFar, may-word}
use Rattle.std.proofs.Common.{subst, sym, ℕ, ◌≢◌}
use Rattle.alg_ring.proofs.check.part_bits.Goals as goal

pub loop-i-init : goal.loop-i-init
loop-i-init g c =
    record {
      table = refl;
      id = refl;
      bare = refl;
      seat = refl;
      low = le_refl (4 * c.args.part);
      steps = omega arith;
      loads = part-first c.args.stm.now.config.ring c.args.time c.args.filter.now c.args.part c.args.seat.now.me.0.view;
    }

pub word-requires-in-loop-i-clause-seat : goal.word-requires-in-loop-i-clause-seat
word-requires-in-loop-i-clause-seat g c = let i = c.loop-i.invariant in (i.table ∙ c.requires.seat.0, ap (λ (y : SeatView g.row.K.Denot). y.who.role) i.seat ∙ c.requires.seat.1)

pub word-requires-in-loop-i-clause-view : goal.word-requires-in-loop-i-clause-view
word-requires-in-loop-i-clause-view g c = let i = c.loop-i.invariant in
    may-word c.args.stm.now.config.ring c.args.time c.loop-i.i c.args.seat.now.me.0.view c.loop-i.seat.me.0.view _ i.loads.more
    c.requires.view i.loads.is (let p = c.requires.part in let t = c.loop-i-test.true in omega arith)

pub loop-i-preserved : goal.loop-i-preserved
loop-i-preserved g c =
    record {
      table = c.word-in-loop-i.ensures.same.0 ∙ c.loop-i.invariant.table;
      id = c.word-in-loop-i.ensures.same.1 ∙ c.loop-i.invariant.id;
      bare = c.word-in-loop-i.ensures.same.2 ∙ c.loop-i.invariant.bare;
      seat =
          seat-on c.args.seat.now.me.0 c.loop-i.seat.me.0 c.word-in-loop-i.new.seat.me.0
          (view_after (ring_word c.args.stm.now.config.ring c.args.time c.loop-i.i) c.word-in-loop-i.ensures.step.0 c.loop-i.seat.me.0.view
          c.word-in-loop-i.result) c.loop-i.invariant.seat c.word-in-loop-i.ensures.step.3;
      low = (let l = c.loop-i.invariant.low in omega arith);
      steps = (let l = ap (λ (y : SeatView g.row.K.Denot). length y.view.steps.step_trace) c.word-in-loop-i.ensures.step.3 in let q = c.loop-i.invariant.steps in let w = c.loop-i.invariant.low in omega arith);
      loads =
          part-next c.args.stm.now.config.ring c.args.time c.args.filter.now c.args.part c.loop-i.i c.args.seat.now.me.0.view
          c.loop-i.seat.me.0.view c.word-in-loop-i.new.seat.me.0.view c.word-in-loop-i.result c.loop-i.invariant.loads
          (tells-of (ring_word c.args.stm.now.config.ring c.args.time c.loop-i.i) Nothing _ _ _ c.word-in-loop-i.ensures.step)
          c.loop-i.invariant.low
          (ap (λ (k : ℕ). bit_and k c.word-in-loop-i.result) (sym c.word.ensures) ∙ c.if-bits-ne0.false);
    }

pub returns-then-bits-ne0-clause-same : goal.returns-then-bits-ne0-clause-same
returns-then-bits-ne0-clause-same g c = (
  (
    c.word-in-loop-i.ensures.same.0 ∙ c.loop-i.invariant.table,
    c.word-in-loop-i.ensures.same.1 ∙ c.loop-i.invariant.id,
    c.word-in-loop-i.ensures.same.2 ∙ c.loop-i.invariant.bare,
  ),
  seat-on c.args.seat.now.me.0 c.loop-i.seat.me.0 c.word-in-loop-i.new.seat.me.0
      (view_after (ring_word c.args.stm.now.config.ring c.args.time c.loop-i.i) c.word-in-loop-i.ensures.step.0 c.loop-i.seat.me.0.view
      c.word-in-loop-i.result) c.loop-i.invariant.seat c.word-in-loop-i.ensures.step.3,
)

pub returns-then-bits-ne0-clause-loads : goal.returns-then-bits-ne0-clause-loads
returns-then-bits-ne0-clause-loads g c =
    let ring = c.args.stm.now.config.ring in
    let i = c.loop-i.invariant in
    let s = c.loop-i.seat.me.0 in
    let x = c.word-in-loop-i.result in
    let t = c.word-in-loop-i.new.seat.me.0 in
    let step = c.word-in-loop-i.ensures.step in
    let some : bit_and c.word.result x ≢ 0 = search rules in
    subst (λ (k : ℕ). LoadsPart ring c.args.time c.args.filter.now c.args.part (bit_and k x) c.args.seat.now.me.0.view t.view) (sym c.word.ensures)
    (part-found ring c.args.time c.args.filter.now c.args.part c.loop-i.i c.args.seat.now.me.0.view s.view t.view x i.loads (tells-of (ring_word ring c.args.time c.loop-i.i) Nothing s x t step) i.low c.loop-i-test.true
    (λ z. some (ap (λ (k : ℕ). bit_and k x) c.word.ensures ∙ z)))

pub returns-clause-same : goal.returns-clause-same
returns-clause-same g c = let i = c.loop-i.invariant in ((i.table, i.id, i.bare), i.seat)

pub returns-clause-loads : goal.returns-clause-loads
returns-clause-loads g c =
    let end : c.loop-i.i ≡ 4 * c.args.part + 4 = (let a = c.loop-i-test.false in let b = c.loop-i.auto.i-end in omega arith) in
    part-last c.args.stm.now.config.ring c.args.time c.args.filter.now c.args.part c.args.seat.now.me.0.view c.loop-i.seat.me.0.view
    (subst (λ (k : ℕ).
    PartSoFar c.args.stm.now.config.ring c.args.time c.args.filter.now c.args.part k c.args.seat.now.me.0.view c.loop-i.seat.me.0.view) end
    c.loop-i.invariant.loads)
