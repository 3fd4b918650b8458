use Rattle.work_driver.proofs.ScheduleLaws.{sound-at, set-sound, set-same}
use Rattle.work_driver.proofs.RoundLaws.{none-given-up, given-up}
use Rattle.work_driver.proofs.finishing.give_up_open.Goals as goal

pub give_up_one-requires : goal.give_up_one-requires
give_up_one-requires g c = sound-at (g.K.MemRule.good c.args.stm.now.rule) c.args.stm.now c.args.runners.now c.args.caller c.index-runners-caller.result c.requires.below c.requires.sound

pub returns-in-None : goal.returns-in-None
returns-in-None g c = record {
  sound = set-sound (g.K.MemRule.good c.args.stm.now.rule) c.args.stm.now c.args.runners.now c.args.caller c.index-runners-caller.result c.give_up_one.new.runner c.requires.sound c.in-None.ensures.sound;
  same = set-same (g.K.MemRule.good c.args.stm.now.rule) c.args.stm.now c.args.runners.now c.args.caller c.index-runners-caller.result c.give_up_one.new.runner c.requires.below c.in-None.ensures.same;
  goes =
      none-given-up (g.K.MemRule.good c.args.stm.now.rule) c.args.stm.now c.args.runners.now c.args.caller c.index-runners-caller.result
      c.give_up_one.new.runner c.requires.below c.args.trace.now.items c.in-None.ensures;
}

pub returns-in-Ok : goal.returns-in-Ok
returns-in-Ok g c = record {
  sound = set-sound (g.K.MemRule.good c.args.stm.now.rule) c.args.stm.now c.args.runners.now c.args.caller c.index-runners-caller.result c.give_up_one.new.runner c.requires.sound c.in-Some.ensures.turned.sound;
  same = set-same (g.K.MemRule.good c.args.stm.now.rule) c.args.stm.now c.args.runners.now c.args.caller c.index-runners-caller.result c.give_up_one.new.runner c.requires.below c.in-Some.ensures.turned.same;
  goes =
      given-up (g.K.MemRule.good c.args.stm.now.rule) c.args.stm.now c.args.runners.now c.args.caller c.index-runners-caller.result
      c.give_up_one.new.runner c.requires.below c.in-Some.said c.args.trace.now.items c.push.new.self.items c.in-Some.ensures
      c.in-Ok.ensures.items;
}

pub returns-in-Err-clause-sound : goal.returns-in-Err-clause-sound
returns-in-Err-clause-sound g c =
    set-sound (g.K.MemRule.good c.args.stm.now.rule) c.args.stm.now c.args.runners.now c.args.caller c.index-runners-caller.result
    c.give_up_one.new.runner c.requires.sound c.in-Some.ensures.turned.sound

pub returns-in-Err-clause-same : goal.returns-in-Err-clause-same
returns-in-Err-clause-same g c =
    set-same (g.K.MemRule.good c.args.stm.now.rule) c.args.stm.now c.args.runners.now c.args.caller c.index-runners-caller.result
    c.give_up_one.new.runner c.requires.below c.in-Some.ensures.turned.same
