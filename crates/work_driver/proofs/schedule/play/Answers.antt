use Rattle.std.proofs.Common.{◌+◌, suc, ◌++◌, get_or, take, drop}
use Rattle.std.specs.Prelude.{replicate}
use Rattle.work_script.specs.declared.workload.Go.{Go}
use Rattle.work_trace.specs.Turns.{MaySay}
use Rattle.work_trace.specs.Fits.{turns}
use Rattle.work_trace.specs.TurnLaws.{turns-next, turns-part, turns-all}
use Rattle.work_driver.specs.AllWorkers.{workers_in}
use Rattle.work_driver.proofs.ScheduleLaws.{same-refl, same-trans, plays-none, plays-next, plays-halt, plays-as, plays-early}
use Rattle.work_driver.proofs.schedule.play.Goals as goal

pub loop-go-init : goal.loop-go-init
loop-go-init g c = record {
  sound = c.requires.sound;
  same = same-refl (workers_in c.args.runners.now);
  plays = plays-none c.args.stm.now.config MaySay (workers_in c.args.runners.now) c.args.trace.now.items;
}

pub returns-in-Err : goal.returns-in-Err
returns-in-Err g c =
    let s = c.args.schedule.now in let i = c.loop-go.go-index in let d : Go = record { caller = 0; turns = 0 } in let go = get_or s i d in
    record {
      sound = c.turns_of.ensures.sound;
      same = same-trans (workers_in c.args.runners.now) (workers_in c.loop-go.runners) (workers_in c.turns_of.new.runners) c.loop-go.invariant.same c.turns_of.ensures.same;
      plays =
          plays-early c.args.stm.now.config MaySay (workers_in c.args.runners.now) (workers_in c.turns_of.new.runners)
          c.args.trace.now.items c.turns_of.new.trace.items (turns (take i s) ++ replicate go.turns go.caller) (turns (drop (suc i) s))
          (turns s) c.in-Err.halt (turns-part i s d c.loop-go-test.true)
          (plays-halt c.args.stm.now.config MaySay (workers_in c.args.runners.now) (workers_in c.loop-go.runners)
          (workers_in c.turns_of.new.runners) c.args.trace.now.items c.loop-go.trace.items c.turns_of.new.trace.items (turns (take i s))
          (replicate go.turns go.caller) c.loop-go.invariant.plays c.in-Err.halt c.in-Err.ensures.plays);
    }

pub loop-go-preserved : goal.loop-go-preserved
loop-go-preserved g c =
    let s = c.args.schedule.now in let i = c.loop-go.go-index in let d : Go = record { caller = 0; turns = 0 } in let go = get_or s i d in
    record {
      sound = c.turns_of.ensures.sound;
      same = same-trans (workers_in c.args.runners.now) (workers_in c.loop-go.runners) (workers_in c.turns_of.new.runners) c.loop-go.invariant.same c.turns_of.ensures.same;
      plays =
          plays-as c.args.stm.now.config MaySay (workers_in c.args.runners.now) (workers_in c.turns_of.new.runners) c.args.trace.now.items
          c.turns_of.new.trace.items (turns (take i s) ++ replicate go.turns go.caller) (turns (take (i + 1) s))
          (turns-next i s d c.loop-go-test.true)
          (plays-next c.args.stm.now.config MaySay (workers_in c.args.runners.now) (workers_in c.loop-go.runners)
          (workers_in c.turns_of.new.runners) c.args.trace.now.items c.loop-go.trace.items c.turns_of.new.trace.items (turns (take i s))
          (replicate go.turns go.caller) c.loop-go.invariant.plays c.in-Ok.ensures.plays);
    }

pub returns-clause-plays : goal.returns-clause-plays
returns-clause-plays g c =
    plays-as c.args.stm.now.config MaySay (workers_in c.args.runners.now) (workers_in c.loop-go.runners) c.args.trace.now.items
    c.loop-go.trace.items (turns (take c.loop-go.go-index c.args.schedule.now)) (turns c.args.schedule.now)
    (turns-all c.loop-go.go-index c.args.schedule.now c.loop-go-test.false) c.loop-go.invariant.plays
