use Rattle.std.proofs.Common.{subst, sym}
use Rattle.work_trace.specs.declared.said.Phase.{Phase}
use Rattle.work_trace.specs.Turns.{MustSwitch}
use Rattle.work_worker.specs.Workers.{ToSwitch}
use Rattle.work_worker.proofs.worker.Worker.call.Goals as goal

pub close-requires-clause-here : goal.close-requires-clause-here
close-requires-clause-here g c = subst (λ chosen. MustSwitch chosen c.args.self.now.items_left.now) (sym c.in-Some.is) tt

pub target-alg-requires : goal.target-alg-requires
target-alg-requires g c = let u = c.args.self.now in record { here = subst (λ (p : Phase). ToSwitch p u.chosen u.items_left.now) c.in-Quiet.is c.requires.sound.turning }
