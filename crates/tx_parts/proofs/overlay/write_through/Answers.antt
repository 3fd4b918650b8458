use Rattle.std.proofs.Common.{ℕ, ◌<◌, ◌≤◌, length, sym, ◌∙◌, subst, arith}
use Rattle.stm_model.specs.Logs.{Writes}
use Rattle.tx_parts.specs.LayingLaws.{within-at, lays-more, lays-all, same-then}
use Rattle.tx_parts.proofs.overlay.write_through.Goals as goal

pub write-requires-clause-within : goal.write-requires-clause-within
write-requires-clause-within g c =
    let words = g.A.Access.words c.args.memory.now in
    let low : c.loop-i.i < length c.args.room.now.items = omega (arith, c.loop-i-test.true, c.count-i-end.ensures.count) in
    subst (λ (n : ℕ). c.item-a.result.0 < n) (sym c.loop-i.invariant.words) (subst (λ (w : ℕ × ℕ). w.0 < words) (sym c.item-a.ensures) (within-at words c.loop-i.i c.args.room.now.items low c.requires.within))

pub loop-i-preserved : goal.loop-i-preserved
loop-i-preserved g c =
    let a = g.A.Access in
    let i = c.loop-i.invariant in
    let one = c.in_ok-write.ensures in
    let is = c.args.room.now.items in
    let low : c.loop-i.i < length is = omega (arith, c.loop-i-test.true, c.count-i-end.ensures.count) in
    record {
      going = one.goes;
      words = one.words ∙ i.words;
      good = same-then (a.good c.args.memory.now) (a.good c.loop-i.memory) (a.good c.write.new.self) i.good one.good;
      keeps = g.met.A.Access.keeps_trans c.args.memory.now c.loop-i.memory c.write.new.self i.keeps one.keeps;
      explained = one.explained;
      lays = lays-more is c.loop-i.i (a.log c.args.memory.now) (a.log c.loop-i.memory) (a.log c.write.new.self) low i.lays
          (subst (λ (w : ℕ × ℕ). Writes (a.log c.loop-i.memory) w.0 w.1 (a.log c.write.new.self)) c.item-a.ensures one.value);
    }

pub returns-clause-lays : goal.returns-clause-lays
returns-clause-lays g c =
    let a = g.A.Access in
    let high : length c.args.room.now.items ≤ c.loop-i.i = omega (arith, c.loop-i-test.false, c.count-i-end.ensures.count) in
    lays-all c.args.room.now.items c.loop-i.i (a.log c.args.memory.now) (a.log c.loop-i.memory) high c.loop-i.invariant.lays
