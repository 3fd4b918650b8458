use Rattle.std.proofs.Common.{◌≡◌, drop}
use Rattle.work_driver.specs.AllWorkers.{how_all, sooner}
use Rattle.work_driver.proofs.workers.how_ended.Given as goal

abbrev pub invariant-loop-runner : goal.invariant-loop-runner
invariant-loop-runner g l = sooner l.how (how_all (drop l.runner-index l.runners)) ≡ how_all l.runners
