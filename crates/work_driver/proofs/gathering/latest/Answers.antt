use Rattle.std.proofs.Common.{◌≡◌, [], subst}
use Rattle.std.specs.Prelude.{MatchOption}
use Rattle.work_driver.specs.Gatherings.{HasRow, joined}
use Rattle.work_driver.proofs.GatherLaws.{latest-found}
use Rattle.work_driver.proofs.gathering.latest.Goals as goal

pub returns-in-None : goal.returns-in-None
returns-in-None c =
    let ls = c.args.lists.now in
    subst (λ found. MatchOption found (joined ls ≡ []) (HasRow ls)) c.in-None.is (latest-found ls c.loop-n.n c.loop-n.found c.loop-n-test.false c.loop-n.invariant)

pub returns-in-Some-found : goal.returns-in-Some-found
returns-in-Some-found c =
    let ls = c.args.lists.now in
    subst (λ found. MatchOption found (joined ls ≡ []) (HasRow ls)) c.in-Some-found.is (latest-found ls c.loop-n.n c.loop-n.found c.loop-n-test.false c.loop-n.invariant)
