use Rattle.std.proofs.Common.{length, subst, sym, ◌≤◌}
use Rattle.work_driver.specs.Untils.{may_until, stands_until}
use Rattle.work_driver.specs.AllWorkers.{workers_in}
use Rattle.work_driver.proofs.ScheduleLaws.{same-refl, same-trans}
use Rattle.work_driver.proofs.RoundLaws.{rounded-none, rounded-next, rounded-all, rounds-halt}
use Rattle.work_driver.proofs.WorkersLaws.{workers-length}
use Rattle.work_driver.proofs.finishing.round.Goals as goal

pub loop-caller-init : goal.loop-caller-init
loop-caller-init g c = record {
  sound = c.requires.sound;
  same = same-refl (workers_in c.args.runners.now);
  rounded = rounded-none c.args.stm.now.config (may_until c.args.until) (stands_until c.args.until) (workers_in c.args.runners.now) c.args.trace.now.items;
}

pub loop-caller-preserved : goal.loop-caller-preserved
loop-caller-preserved g c = record {
  sound = c.turns_of_caller.ensures.sound;
  same = same-trans (workers_in c.args.runners.now) (workers_in c.loop-caller.runners) (workers_in c.turns_of_caller.new.runners) c.loop-caller.invariant.same c.turns_of_caller.ensures.same;
  rounded =
      rounded-next c.args.stm.now.config (may_until c.args.until) (stands_until c.args.until) c.loop-caller.caller
      (workers_in c.args.runners.now) (workers_in c.loop-caller.runners) (workers_in c.turns_of_caller.new.runners) c.args.trace.now.items
      c.loop-caller.trace.items c.turns_of_caller.new.trace.items c.loop-caller.invariant.rounded c.in-Ok.ensures.goes;
}

pub returns-in-Err : goal.returns-in-Err
returns-in-Err g c = record {
  sound = c.turns_of_caller.ensures.sound;
  same = same-trans (workers_in c.args.runners.now) (workers_in c.loop-caller.runners) (workers_in c.turns_of_caller.new.runners) c.loop-caller.invariant.same c.turns_of_caller.ensures.same;
  rounds =
      rounds-halt c.args.stm.now.config (may_until c.args.until) (stands_until c.args.until) c.loop-caller.caller
      (workers_in c.args.runners.now) (workers_in c.loop-caller.runners) (workers_in c.turns_of_caller.new.runners) c.args.trace.now.items
      c.loop-caller.trace.items c.turns_of_caller.new.trace.items c.loop-caller.invariant.rounded c.in-Err.halt c.in-Err.ensures.goes;
}

pub returns-clause-rounds : goal.returns-clause-rounds
returns-clause-rounds g c =
    rounded-all c.args.stm.now.config (may_until c.args.until) (stands_until c.args.until) c.loop-caller.caller
    (workers_in c.args.runners.now) (workers_in c.loop-caller.runners) (workers_in c.loop-caller.runners) c.args.trace.now.items
    c.loop-caller.trace.items c.loop-caller.trace.items c.loop-caller.invariant.rounded (length (workers_in c.args.runners.now))
    (subst (λ k. k ≤ c.loop-caller.caller) (sym (workers-length c.args.runners.now)) c.loop-caller-test.false)
    (subst (λ k. c.loop-caller.caller ≤ k) (sym (workers-length c.args.runners.now)) c.loop-caller.auto.caller-end)
