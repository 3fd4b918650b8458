use Rattle.std.proofs.Common.{◌≡◌, ◌-◌, ℕ, refl, ap, ◌∙◌, arith, subst, rules}
use Rattle.rule_base.specs.declared.seats.SeatView.{SeatView}
use Rattle.alg_ring.proofs.Seats.{seat-on}
use Rattle.alg_ring.proofs.Slot.{ScanSoFar, scan-first, may-scan, scan-next, scan-met, scan-all}
use Rattle.alg_ring.proofs.check.first_met.Goals as goal

pub loop-passed-init : goal.loop-passed-init
loop-passed-init g c = record { table = refl; id = refl; bare = refl; seat = refl; steps = omega arith; scan = scan-first c.args.stm.now.config c.args.start c.args.clock c.args.filter.now c.args.seat.now.me.0.view }

pub slot_bits-bits-requires-clause-seat : goal.slot_bits-bits-requires-clause-seat
slot_bits-bits-requires-clause-seat g c = let i = c.loop-passed.invariant in (i.table ∙ c.requires.seat.0, ap (λ (y : SeatView g.row.K.Denot). y.who.role) i.seat ∙ c.requires.seat.1)

pub slot_bits-bits-requires-clause-view : goal.slot_bits-bits-requires-clause-view
slot_bits-bits-requires-clause-view g c = let i = c.loop-passed.invariant in
    may-scan c.args.stm.now.config c.args.start c.args.clock c.args.filter.now c.loop-passed.passed c.args.seat.now.me.0.view c.loop-passed.seat.me.0.view c.requires.view c.requires.near c.loop-passed-test.true i.scan

pub returns-then-bits-ne0-clause-same : goal.returns-then-bits-ne0-clause-same
returns-then-bits-ne0-clause-same g c = (
  (
    c.slot_bits-bits.ensures.same.0.0 ∙ c.loop-passed.invariant.table,
    c.slot_bits-bits.ensures.same.0.1 ∙ c.loop-passed.invariant.id,
    c.slot_bits-bits.ensures.same.0.2 ∙ c.loop-passed.invariant.bare,
  ),
  seat-on c.args.seat.now.me.0 c.loop-passed.seat.me.0 c.slot_bits-bits.new.seat.me.0 c.slot_bits-bits.new.seat.me.0.view
      c.loop-passed.invariant.seat c.slot_bits-bits.ensures.same.1,
)

pub returns-then-bits-ne0-clause-meets : goal.returns-then-bits-ne0-clause-meets
returns-then-bits-ne0-clause-meets g c =
    scan-met c.args.stm.now.config c.args.start c.args.clock c.args.filter.now c.loop-passed.passed c.slot_bits-bits.result
    c.args.seat.now.me.0.view c.loop-passed.seat.me.0.view c.slot_bits-bits.new.seat.me.0.view c.loop-passed.invariant.scan
    c.slot_bits-bits.ensures.meets (search rules) c.loop-passed-test.true

pub loop-passed-preserved : goal.loop-passed-preserved
loop-passed-preserved g c =
    record {
      table = c.slot_bits-bits.ensures.same.0.0 ∙ c.loop-passed.invariant.table;
      id = c.slot_bits-bits.ensures.same.0.1 ∙ c.loop-passed.invariant.id;
      bare = c.slot_bits-bits.ensures.same.0.2 ∙ c.loop-passed.invariant.bare;
      seat = seat-on c.args.seat.now.me.0 c.loop-passed.seat.me.0 c.slot_bits-bits.new.seat.me.0 c.slot_bits-bits.new.seat.me.0.view c.loop-passed.invariant.seat c.slot_bits-bits.ensures.same.1;
      steps = (let q = c.slot_bits-bits.ensures.steps in let p = c.loop-passed.invariant.steps in omega arith);
      scan =
          scan-next c.args.stm.now.config c.args.start c.args.clock c.args.filter.now c.loop-passed.passed c.slot_bits-bits.result
          c.args.seat.now.me.0.view c.loop-passed.seat.me.0.view c.slot_bits-bits.new.seat.me.0.view c.loop-passed.invariant.scan
          c.slot_bits-bits.ensures.meets (omega arith);
    }

pub returns-clause-same : goal.returns-clause-same
returns-clause-same g c = let i = c.loop-passed.invariant in ((i.table, i.id, i.bare), i.seat)

pub returns-clause-meets : goal.returns-clause-meets
returns-clause-meets g c =
    let end : c.loop-passed.passed ≡ c.args.clock - c.args.start = (let a = c.loop-passed-test.false in let b = c.loop-passed.auto.passed-end in omega arith) in
    scan-all c.args.stm.now.config c.args.start c.args.clock c.args.filter.now c.args.seat.now.me.0.view c.loop-passed.seat.me.0.view
    c.requires.view
    (subst (λ (k : ℕ).
    ScanSoFar c.args.stm.now.config c.args.start c.args.clock c.args.filter.now k c.args.seat.now.me.0.view c.loop-passed.seat.me.0.view)
    end c.loop-passed.invariant.scan)
