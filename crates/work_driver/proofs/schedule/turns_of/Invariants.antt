use Rattle.std.specs.Prelude.{true, replicate, Ok}
use Rattle.work_trace.specs.Turns.{MaySay}
use Rattle.work_driver.specs.Schedules.{AreSound, AreSame, Plays}
use Rattle.work_driver.specs.AllWorkers.{workers_in}
use Rattle.work_driver.proofs.schedule.turns_of.Given as goal

abbrev pub invariant-loop-i : goal.invariant-loop-i
invariant-loop-i g l = record {
  sound : AreSound (g.K.MemRule.good l.stm.rule) l.stm (workers_in l.runners);
  same : AreSame true (workers_in l.fn.runners) (workers_in l.runners);
  plays : Plays l.stm.config MaySay (workers_in l.fn.runners) (workers_in l.runners) l.fn.trace.items l.trace.items (replicate l._i l.go.caller) (Ok tt);
}
