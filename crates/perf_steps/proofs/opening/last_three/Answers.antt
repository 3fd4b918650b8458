use Rattle.perf_steps.proofs.Openings.{taken}
use Rattle.perf_steps.proofs.opening.last_three.Goals as goal

pub returns : goal.returns
returns c =
    let third = c.in_ok-third in
    let second = c.in_ok-second in
    let first = c.in_ok-first in
    taken c.args.stm.now c.args.descs.items c.pop.new.self.items c.pop-2.new.self.items c.pop-3.new.self.items first.first second.second third.third third.ensures.items second.ensures.items first.ensures.items c.requires
