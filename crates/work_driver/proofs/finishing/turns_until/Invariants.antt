use Rattle.std.proofs.Common.{ℕ}
use Rattle.std.specs.Prelude.{true, replicate, Ok}
use Rattle.work_driver.specs.Schedules.{place_at, AreSound, AreSame, Plays}
use Rattle.work_driver.specs.AllWorkers.{workers_in}
use Rattle.work_driver.specs.Untils.{may_until, ready_until}
use Rattle.work_driver.proofs.finishing.turns_until.Given as goal

abbrev pub invariant-loop : goal.invariant-loop
invariant-loop g l = record {
  next : (goal.iterator-loop g).can_next l.iterator';
  ends : (goal.iterator-loop g).is_finite l.iterator';
  sound : AreSound (g.K.MemRule.good l.stm.rule) l.stm (workers_in l.runners);
  same : AreSame true (workers_in l.fn.runners) (workers_in l.runners);
  ready : ready_until l.until (place_at (workers_in l.runners) l.caller);
  plays : (k : ℕ) × Plays l.stm.config (may_until l.until) (workers_in l.fn.runners) (workers_in l.runners) l.fn.trace.items l.trace.items (replicate k l.caller) (Ok tt);
}
