use Rattle.std.proofs.Common.{◌++◌, ◌∙◌, arith}
use Rattle.std.proofs.lemmas.List.Sorted.{IsPermutation-refl}
use Rattle.work_driver.proofs.GatherLaws.{moves-last, gone-one}
use Rattle.work_driver.proofs.gathering.OwnRows.move_later.Goals as goal

pub loop-than-init : goal.loop-than-init
loop-than-init c =
    let e = c.move_last.ensures in
    let all = c.args.to.now.items ++ c.args.self.now in
    let one = gone-one c.args.self.now c.move_last.new.self c.args.to.now.items c.move_last.new.to.items e.moves in
    let more = e.len in
    record {
      moved = moves-last c.args.self.now c.move_last.new.self c.args.to.now.items c.move_last.new.to.items all e.moves (IsPermutation-refl all);
      fewer = omega (arith, one);
      len = omega (arith, one, more);
      capacity = e.capacity;
    }

pub loop-than-preserved : goal.loop-than-preserved
loop-than-preserved c =
    let e = c.move_last-in-loop-than.ensures in
    let at = c.loop-than in
    let all = c.args.to.now.items ++ c.args.self.now in
    let one = gone-one at.self c.move_last-in-loop-than.new.self at.to.items c.move_last-in-loop-than.new.to.items e.moves in
    let more = e.len in
    let fewer = at.invariant.fewer in
    let len = at.invariant.len in
    record {
      moved = moves-last at.self c.move_last-in-loop-than.new.self at.to.items c.move_last-in-loop-than.new.to.items all e.moves at.invariant.moved;
      fewer = omega (arith, one, fewer);
      len = omega (arith, one, more, len);
      capacity = e.capacity ∙ at.invariant.capacity;
    }

pub loop-than-smaller : goal.loop-than-smaller
loop-than-smaller c =
    let one = gone-one c.loop-than.self c.move_last-in-loop-than.new.self c.loop-than.to.items c.move_last-in-loop-than.new.to.items c.move_last-in-loop-than.ensures.moves in
    omega (arith, one)
