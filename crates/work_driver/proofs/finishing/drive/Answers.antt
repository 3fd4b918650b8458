use Rattle.std.proofs.Common.{List, subst}
use Rattle.std.specs.Prelude.{Ok, Err}
use Rattle.work_trace.specs.declared.line.Line.{Line}
use Rattle.work_trace.specs.Fits.{turns}
use Rattle.work_trace.specs.Turns.{MaySay, MayWind}
use Rattle.work_driver.specs.Schedules.{Plays, Rounds}
use Rattle.work_worker.specs.Leavings.{HasNothingOpen}
use Rattle.work_driver.specs.AllWorkers.{workers_in}
use Rattle.work_driver.proofs.ScheduleLaws.{same-trans}
use Rattle.work_driver.proofs.RoundLaws.{cut-first, cut-second, third}
use Rattle.work_driver.proofs.finishing.drive.Goals as goal

pub returns-in-Err : goal.returns-in-Err
returns-in-Err g c = record {
  sound = c.play.ensures.sound;
  same = c.play.ensures.same;
  drives =
      cut-first c.args.stm.now.config c.args.schedule.now (workers_in c.args.runners.now) (workers_in c.play.new.runners)
      c.play.new.trace.items c.in-Err.halt (subst (λ (old : List Line).
      Plays c.args.stm.now.config MaySay (workers_in c.args.runners.now) (workers_in c.play.new.runners) old c.play.new.trace.items
      (turns c.args.schedule.now) (Err c.in-Err.halt)) c.requires.empty c.in-Err.ensures.plays);
}

pub returns-in-Err-round : goal.returns-in-Err-round
returns-in-Err-round g c = record {
  sound = c.round.ensures.sound;
  same = same-trans (workers_in c.args.runners.now) (workers_in c.play.new.runners) (workers_in c.round.new.runners) c.play.ensures.same c.round.ensures.same;
  drives = cut-second c.args.stm.now.config c.args.schedule.now (workers_in c.args.runners.now) (workers_in c.play.new.runners) c.play.new.trace.items (workers_in c.round.new.runners) c.round.new.trace.items
      (subst (λ (old : List Line).
      Plays c.args.stm.now.config MaySay (workers_in c.args.runners.now) (workers_in c.play.new.runners) old c.play.new.trace.items
      (turns c.args.schedule.now) (Ok tt)) c.requires.empty c.in-Ok.ensures.plays)
      c.in-Err-round.halt (subst (λ (old : List Line).
      Rounds c.args.stm.now.config MayWind HasNothingOpen (workers_in c.play.new.runners) (workers_in c.round.new.runners) old
      c.round.new.trace.items (Err c.in-Err-round.halt)) c.in-Ok-push.ensures.items c.in-Err-round.ensures.rounds);
}

pub returns : goal.returns
returns g c = record {
  sound = c.round-2.ensures.sound;
  same =
      same-trans (workers_in c.args.runners.now) (workers_in c.round.new.runners) (workers_in c.round-2.new.runners)
      (same-trans (workers_in c.args.runners.now) (workers_in c.play.new.runners) (workers_in c.round.new.runners) c.play.ensures.same
      c.round.ensures.same) c.round-2.ensures.same;
  drives = third c.args.stm.now.config c.args.schedule.now (workers_in c.args.runners.now) (workers_in c.play.new.runners) c.play.new.trace.items (workers_in c.round.new.runners) c.round.new.trace.items
      (subst (λ (old : List Line).
      Plays c.args.stm.now.config MaySay (workers_in c.args.runners.now) (workers_in c.play.new.runners) old c.play.new.trace.items
      (turns c.args.schedule.now) (Ok tt)) c.requires.empty c.in-Ok.ensures.plays)
      (workers_in c.round-2.new.runners) c.round-2.new.trace.items
      (subst (λ (old : List Line).
      Rounds c.args.stm.now.config MayWind HasNothingOpen (workers_in c.play.new.runners) (workers_in c.round.new.runners) old
      c.round.new.trace.items (Ok tt)) c.in-Ok-push.ensures.items c.in-Ok-round.ensures.rounds)
      c.round.ensures.same c.round-2.ensures.same c.round-2.result c.round-2.ensures.rounds;
}
