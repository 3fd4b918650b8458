use Rattle.std.proofs.Common.{get_or, sym, ◌∙◌}
use Rattle.work_trace.specs.Turns.{MaySay}
use Rattle.work_driver.specs.AllWorkers.{worker_in}
use Rattle.work_driver.proofs.ScheduleLaws.{sound-at, set-sound, set-same, took}
use Rattle.work_driver.proofs.ThreadLaws.{starved-same}
use Rattle.work_driver.proofs.schedule.turn.Goals as goal

pub turn_one-requires : goal.turn_one-requires
turn_one-requires g c = sound-at (g.K.MemRule.good c.args.stm.now.rule) c.args.stm.now c.args.runners.now c.args.caller c.index-runners-caller.result c.requires.below c.requires.sound

pub returns-in-Err-clause-sound : goal.returns-in-Err-clause-sound
returns-in-Err-clause-sound g c =
    set-sound (g.K.MemRule.good c.args.stm.now.rule) c.args.stm.now c.args.runners.now c.args.caller c.index-runners-caller.result
    c.turn_one.new.runner c.requires.sound c.in-Err.ensures.sound

pub returns-in-Err-clause-same : goal.returns-in-Err-clause-same
returns-in-Err-clause-same g c =
    let good = g.K.MemRule.good c.args.stm.now.rule in
    let stm = c.args.stm.now in
    let was = c.index-runners-caller.result in
    let now = c.turn_one.new.runner in
    set-same good stm c.args.runners.now c.args.caller was now c.requires.below (starved-same good stm (worker_in (get_or c.args.runners.now c.args.caller was)) (worker_in now) c.in-Err.ensures)

pub returns-in-Err-push-clause-sound : goal.returns-in-Err-push-clause-sound
returns-in-Err-push-clause-sound g c =
    set-sound (g.K.MemRule.good c.args.stm.now.rule) c.args.stm.now c.args.runners.now c.args.caller c.index-runners-caller.result
    c.turn_one.new.runner c.requires.sound c.in-Ok.ensures.sound

pub returns-in-Err-push-clause-same : goal.returns-in-Err-push-clause-same
returns-in-Err-push-clause-same g c =
    set-same (g.K.MemRule.good c.args.stm.now.rule) c.args.stm.now c.args.runners.now c.args.caller c.index-runners-caller.result
    c.turn_one.new.runner c.requires.below c.in-Ok.ensures.same

pub returns-in-None-clause-sound : goal.returns-in-None-clause-sound
returns-in-None-clause-sound g c =
    set-sound (g.K.MemRule.good c.args.stm.now.rule) c.args.stm.now c.args.runners.now c.args.caller c.index-runners-caller.result
    c.turn_one.new.runner c.requires.sound c.in-Ok.ensures.sound

pub returns-in-None-clause-same : goal.returns-in-None-clause-same
returns-in-None-clause-same g c = set-same (g.K.MemRule.good c.args.stm.now.rule) c.args.stm.now c.args.runners.now c.args.caller c.index-runners-caller.result c.turn_one.new.runner c.requires.below c.in-Ok.ensures.same

pub returns-in-Some-clause-sound : goal.returns-in-Some-clause-sound
returns-in-Some-clause-sound g c =
    set-sound (g.K.MemRule.good c.args.stm.now.rule) c.args.stm.now c.args.runners.now c.args.caller c.index-runners-caller.result
    c.turn_one.new.runner c.requires.sound c.in-Ok.ensures.sound

pub returns-in-Some-clause-same : goal.returns-in-Some-clause-same
returns-in-Some-clause-same g c = set-same (g.K.MemRule.good c.args.stm.now.rule) c.args.stm.now c.args.runners.now c.args.caller c.index-runners-caller.result c.turn_one.new.runner c.requires.below c.in-Ok.ensures.same

pub returns-in-None-clause-turns : goal.returns-in-None-clause-turns
returns-in-None-clause-turns g c = (
  c.in-Ok.said,
  took (g.K.MemRule.good c.args.stm.now.rule) c.args.stm.now c.args.runners.now c.args.caller c.index-runners-caller.result
      c.turn_one.new.runner c.requires.below MaySay c.in-Ok.said c.args.trace.now.items c.push.new.self.items c.in-Ok.ensures
      c.in-Ok-push.ensures.items,
  sym c.full_clock.ensures ∙ c.in-None.is,
)

pub returns-in-Some-clause-turns : goal.returns-in-Some-clause-turns
returns-in-Some-clause-turns g c = (
  c.in-Ok.said,
  took (g.K.MemRule.good c.args.stm.now.rule) c.args.stm.now c.args.runners.now c.args.caller c.index-runners-caller.result
      c.turn_one.new.runner c.requires.below MaySay c.in-Ok.said c.args.trace.now.items c.push.new.self.items c.in-Ok.ensures
      c.in-Ok-push.ensures.items,
  sym c.full_clock.ensures ∙ c.in-Some.is,
)
