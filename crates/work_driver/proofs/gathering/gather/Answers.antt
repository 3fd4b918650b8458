use Rattle.std.proofs.Common.{[], ◌++◌, arith}
use Rattle.work_driver.specs.Gatherings.{joined}
use Rattle.work_driver.proofs.GatherLaws.{left-count, moves-some}
use Rattle.work_driver.proofs.gathering.gather.Goals as goal

pub move_later-requires-clause-room : goal.move_later-requires-clause-room
move_later-requires-clause-room c =
    let part = left-count c.loop-n.lists c.in-Some.n c.index-lists-n.result [] c.in-Some.ensures.0 in
    let room = c.loop-n.invariant.room in
    omega (arith, part, room)

pub loop-n-smaller : goal.loop-n-smaller
loop-n-smaller c =
    let left = left-count c.loop-n.lists c.in-Some.n c.index-lists-n.result c.move_later.new.self c.in-Some.ensures.0 in
    let fewer = c.move_later.ensures.moves.fewer in
    omega (arith, left, fewer)

pub loop-n-preserved : goal.loop-n-preserved
loop-n-preserved c =
    let at = c.loop-n in
    let left = left-count at.lists c.in-Some.n c.index-lists-n.result c.move_later.new.self c.in-Some.ensures.0 in
    let room = at.invariant.room in
    let len = c.move_later.ensures.len in
    let kept = c.move_later.ensures.capacity in
    record {
      rows =
          moves-some at.lists c.in-Some.n c.index-lists-n.result c.move_later.new.self at.to.items c.move_later.new.to.items
          (c.args.to.now.items ++ joined c.args.lists.now) c.in-Some.ensures.0 c.move_later.ensures.moves at.invariant.rows;
      room = omega (arith, left, room, len, kept);
    }
