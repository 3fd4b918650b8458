use Rattle.work_driver.specs.AllWorkers.{workers_in}
use Rattle.work_driver.proofs.IdleLaws.{AreIdleTo}
use Rattle.work_driver.proofs.closing.make_all_idle.Given as goal

abbrev pub invariant-loop-runner : goal.invariant-loop-runner
invariant-loop-runner g l = AreIdleTo (g.K.MemRule.good l.stm.rule) l.stm l.runner-index (workers_in l.fn.runners) (workers_in l.runners)
