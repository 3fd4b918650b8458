use Rattle.work_driver.specs.AllWorkers.{workers_in}
use Rattle.work_driver.specs.Untils.{may_until, stands_until, ready_until}
use Rattle.work_driver.proofs.ScheduleLaws.{same-trans}
use Rattle.work_driver.proofs.RoundLaws.{goes-on}
use Rattle.work_driver.proofs.finishing.turns_of_caller.Goals as goal

pub turns_until-requires-clause-ready : goal.turns_until-requires-clause-ready
turns_until-requires-clause-ready g c = c.in-Ok.ensures.goes.2

pub returns : goal.returns
returns g c = record {
  sound = c.turns_until.ensures.sound;
  same = same-trans (workers_in c.args.runners.now) (workers_in c.make_ready.new.runners) (workers_in c.turns_until.new.runners) c.make_ready.ensures.same c.turns_until.ensures.same;
  goes =
      goes-on c.args.stm.now.config (may_until c.args.until) (ready_until c.args.until) (stands_until c.args.until)
      (workers_in c.args.runners.now) (workers_in c.make_ready.new.runners) (workers_in c.turns_until.new.runners) c.args.trace.now.items
      c.make_ready.new.trace.items c.turns_until.new.trace.items c.args.caller c.turns_until.result c.in-Ok.ensures.goes
      c.turns_until.ensures.goes;
}
