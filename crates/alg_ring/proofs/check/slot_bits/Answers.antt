use Rattle.std.proofs.Common.{refl, ap, ◌∙◌, arith, le_refl, rules}
use Rattle.rule_base.specs.declared.seats.SeatView.{SeatView}
use Rattle.alg_ring.proofs.Seats.{seat-on}
use Rattle.alg_ring.proofs.Slot.{slot-first, slot-more, slot-apart, slot-one, slot-next, slot-all, may-slot}
use Rattle.alg_ring.proofs.check.slot_bits.Goals as goal

pub returns-then-lowest-eq0-clause-meets : goal.returns-then-lowest-eq0-clause-meets
returns-then-lowest-eq0-clause-meets g c =
    slot-apart c.args.stm.now.config.ring c.args.time c.args.filter.now 0 c.part_bits-lowest.result c.args.seat.now.me.0.view
    c.args.seat.now.me.0.view c.part_bits-lowest.new.seat.me.0.view
    (slot-first c.args.stm.now.config.ring c.args.time c.args.filter.now c.args.seat.now.me.0.view) c.part_bits-lowest.ensures.loads
    (omega arith) (omega arith)

pub loop-part-init : goal.loop-part-init
loop-part-init g c =
    record {
      table = c.part_bits-lowest.ensures.same.0.0;
      id = c.part_bits-lowest.ensures.same.0.1;
      bare = c.part_bits-lowest.ensures.same.0.2;
      seat = c.part_bits-lowest.ensures.same.1;
      low = le_refl 1;
      steps = (let q = c.part_bits-lowest.ensures.steps in omega arith);
      words =
          slot-more c.args.stm.now.config.ring c.args.time c.args.filter.now 0 c.part_bits-lowest.result c.args.seat.now.me.0.view
          c.args.seat.now.me.0.view c.part_bits-lowest.new.seat.me.0.view
          (slot-first c.args.stm.now.config.ring c.args.time c.args.filter.now c.args.seat.now.me.0.view) c.part_bits-lowest.ensures.loads;
      met =
          slot-one c.args.stm.now.config.ring c.args.time c.args.filter.now 0 c.part_bits-lowest.result c.args.seat.now.me.0.view
          c.args.seat.now.me.0.view c.part_bits-lowest.new.seat.me.0.view
          (slot-first c.args.stm.now.config.ring c.args.time c.args.filter.now c.args.seat.now.me.0.view) c.part_bits-lowest.ensures.loads
          refl (search rules);
    }

pub part_bits-bits-requires-clause-seat : goal.part_bits-bits-requires-clause-seat
part_bits-bits-requires-clause-seat g c = let i = c.loop-part.invariant in (i.table ∙ c.requires.seat.0, ap (λ (y : SeatView g.row.K.Denot). y.who.role) i.seat ∙ c.requires.seat.1)

pub part_bits-bits-requires-clause-view : goal.part_bits-bits-requires-clause-view
part_bits-bits-requires-clause-view g c = let i = c.loop-part.invariant in
    may-slot c.args.stm.now.config.ring c.args.time c.args.seat.now.me.0.view c.loop-part.seat.me.0.view _ i.words.more c.requires.view i.words.is

pub returns-then-bits-eq0-clause-same : goal.returns-then-bits-eq0-clause-same
returns-then-bits-eq0-clause-same g c = (
  (
    c.part_bits-bits.ensures.same.0.0 ∙ c.loop-part.invariant.table,
    c.part_bits-bits.ensures.same.0.1 ∙ c.loop-part.invariant.id,
    c.part_bits-bits.ensures.same.0.2 ∙ c.loop-part.invariant.bare,
  ),
  seat-on c.args.seat.now.me.0 c.loop-part.seat.me.0 c.part_bits-bits.new.seat.me.0 c.part_bits-bits.new.seat.me.0.view
      c.loop-part.invariant.seat c.part_bits-bits.ensures.same.1,
)

pub returns-then-bits-eq0-clause-meets : goal.returns-then-bits-eq0-clause-meets
returns-then-bits-eq0-clause-meets g c =
    slot-apart c.args.stm.now.config.ring c.args.time c.args.filter.now c.loop-part.part c.part_bits-bits.result c.args.seat.now.me.0.view
    c.loop-part.seat.me.0.view c.part_bits-bits.new.seat.me.0.view c.loop-part.invariant.words c.part_bits-bits.ensures.loads
    c.loop-part-test.true (omega arith)

pub loop-part-preserved : goal.loop-part-preserved
loop-part-preserved g c =
    record {
      table = c.part_bits-bits.ensures.same.0.0 ∙ c.loop-part.invariant.table;
      id = c.part_bits-bits.ensures.same.0.1 ∙ c.loop-part.invariant.id;
      bare = c.part_bits-bits.ensures.same.0.2 ∙ c.loop-part.invariant.bare;
      seat = seat-on c.args.seat.now.me.0 c.loop-part.seat.me.0 c.part_bits-bits.new.seat.me.0 c.part_bits-bits.new.seat.me.0.view c.loop-part.invariant.seat c.part_bits-bits.ensures.same.1;
      low = (let q = c.loop-part.invariant.low in omega arith);
      steps = (let q = c.part_bits-bits.ensures.steps in let p = c.loop-part.invariant.steps in omega arith);
      words =
          slot-more c.args.stm.now.config.ring c.args.time c.args.filter.now c.loop-part.part c.part_bits-bits.result
          c.args.seat.now.me.0.view c.loop-part.seat.me.0.view c.part_bits-bits.new.seat.me.0.view c.loop-part.invariant.words
          c.part_bits-bits.ensures.loads;
      met =
          slot-next c.args.stm.now.config.ring c.args.time c.args.filter.now c.loop-part.part c.part_bits-bits.result
          c.args.seat.now.me.0.view c.loop-part.seat.me.0.view c.part_bits-bits.new.seat.me.0.view c.loop-part.invariant.words
          c.part_bits-bits.ensures.loads c.part_bits-lowest.result c.loop-part.invariant.low (search rules) c.loop-part.invariant.met;
    }

pub returns-clause-same : goal.returns-clause-same
returns-clause-same g c = let i = c.loop-part.invariant in ((i.table, i.id, i.bare), i.seat)

pub returns-clause-meets : goal.returns-clause-meets
returns-clause-meets g c =
    slot-all c.args.stm.now.config.ring c.args.time c.args.filter.now c.loop-part.part c.part_bits-lowest.result c.args.seat.now.me.0.view
    c.loop-part.seat.me.0.view c.loop-part.invariant.words
    (let a = c.loop-part-test.false in let b = c.loop-part.auto.part-end in omega arith) c.loop-part.invariant.met
