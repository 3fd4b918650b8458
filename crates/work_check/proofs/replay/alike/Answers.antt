use Rattle.std.proofs.Common.{arith}
use Rattle.work_check.proofs.StandingLaws.{alike-short}
use Rattle.work_check.proofs.replay.alike.Goals as goal

pub returns-then-left-i-clause-alike : goal.returns-then-left-i-clause-alike
returns-then-left-i-clause-alike c =
    let e = c.loop-i.invariant.alike in
    let z = alike-short c.args.told.now c.args.left.now c.loop-i.i c.if-left-i.true in
    omega arith
