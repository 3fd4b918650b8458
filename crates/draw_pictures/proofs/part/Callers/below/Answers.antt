use Rattle.std.proofs.Common.{arith}
use Rattle.draw_pictures.proofs.Parting.{below-step}
use Rattle.draw_pictures.proofs.part.Callers.below.Goals as goal

pub loop-i-preserved : goal.loop-i-preserved
loop-i-preserved c =
    let inv = c.loop-i.invariant in
    let all = inv.all in
    let few = inv.few in
    let one = c.counts-count.ensures.is in
    let most = c.counts-count.ensures.few in
    let step = below-step c.args.self.chosen c.loop-i.i c.args.caller in
    record { all = omega (arith, all, one, step); few = omega (arith, few, most) }
