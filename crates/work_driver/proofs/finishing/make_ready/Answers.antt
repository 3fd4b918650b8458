use Rattle.std.proofs.Common.{sym, subst}
use Rattle.std.specs.Prelude.{Ok}
use Rattle.work_driver.specs.AllWorkers.{workers_in}
use Rattle.work_driver.specs.Schedules.{Goes}
use Rattle.work_driver.specs.Untils.{may_until, ready_until}
use Rattle.work_driver.proofs.ScheduleLaws.{same-refl}
use Rattle.work_driver.proofs.RoundLaws.{ready-none}
use Rattle.work_driver.proofs.finishing.make_ready.Goals as goal

pub returns-in-NothingOpen-clause-goes : goal.returns-in-NothingOpen-clause-goes
returns-in-NothingOpen-clause-goes g c =
    subst (λ u.
    Goes c.args.stm.now.config (may_until u) (ready_until u) (workers_in c.args.runners.now) (workers_in c.give_up_open.new.runners)
    c.args.trace.now.items c.give_up_open.new.trace.items c.args.caller c.give_up_open.result) (sym c.in-NothingOpen.is)
    c.give_up_open.ensures.goes

pub returns-in-NothingLeft : goal.returns-in-NothingLeft
returns-in-NothingLeft g c = record {
  sound = c.requires.sound;
  same = same-refl (workers_in c.args.runners.now);
  goes =
      subst (λ u.
      Goes c.args.stm.now.config (may_until u) (ready_until u) (workers_in c.args.runners.now) (workers_in c.args.runners.now)
      c.args.trace.now.items c.args.trace.now.items c.args.caller (Ok tt)) (sym c.in-NothingLeft.is)
      (ready-none c.args.stm.now.config (workers_in c.args.runners.now) c.args.trace.now.items c.args.caller);
}
