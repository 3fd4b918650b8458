use Rattle.std.specs.Prelude.{true}
use Rattle.work_driver.specs.Untils.{may_until, stands_until}
use Rattle.work_driver.specs.Schedules.{AreSound, AreSame, Rounded}
use Rattle.work_driver.specs.AllWorkers.{workers_in}
use Rattle.work_driver.proofs.finishing.round.Given as goal

abbrev pub invariant-loop-caller : goal.invariant-loop-caller
invariant-loop-caller g l = record {
  sound : AreSound (g.K.MemRule.good l.stm.rule) l.stm (workers_in l.runners);
  same : AreSame true (workers_in l.fn.runners) (workers_in l.runners);
  rounded : Rounded l.stm.config (may_until l.until) (stands_until l.until) l.caller (workers_in l.fn.runners) (workers_in l.runners) l.fn.trace.items l.trace.items;
}
