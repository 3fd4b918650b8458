use Rattle.std.proofs.Common.{sym, ap, ◌∙◌}
use Rattle.work_trace.specs.Places.{clock_of}
use Rattle.work_worker.specs.Workers.{place_of}
use Rattle.work_driver.proofs.ScheduleLaws.{same-said, self-same, worker-trans}
use Rattle.work_driver.proofs.ThreadLaws.{halts-between, halts-limit, idle-through, covered-full, covered-next, covered-over, covered-self, covered-starved}
use Rattle.work_driver.proofs.threads.work.Goals as goal

pub loop-init : goal.loop-init
loop-init g c = record { next = tt; ends = tt; sound = c.requires.sound; same = self-same c.args.w.now; covered = covered-self c.args.stm.now c.args.w.now }

pub returns-in-Err-clause-covered : goal.returns-in-Err-clause-covered
returns-in-Err-clause-covered g c = covered-starved (g.K.MemRule.good c.args.stm.now.rule) c.args.stm.now c.args.w.now c.loop.w c.turn.new.self c.in-Err.ensures.turned c.loop.invariant.covered

pub returns-in-Idle-clause-same : goal.returns-in-Idle-clause-same
returns-in-Idle-clause-same g c =
    worker-trans c.args.w.now c.loop.w c.turn.new.self c.loop.invariant.same
    (same-said (place_of c.loop.w) c.in-Ok.said c.loop.w c.turn.new.self c.in-Ok.ensures.turned.here c.in-Ok.ensures.turned.same)

pub returns-in-Idle-clause-through : goal.returns-in-Idle-clause-through
returns-in-Idle-clause-through g c =
    idle-through (g.K.MemRule.good c.args.stm.now.rule) c.args.stm.now c.loop.w c.turn.new.self c.in-Ok.said c.in-Ok.ensures.turned c.in-Idle.is

pub returns-in-Idle-clause-covered : goal.returns-in-Idle-clause-covered
returns-in-Idle-clause-covered g c =
    covered-over (g.K.MemRule.good c.args.stm.now.rule) c.args.stm.now c.args.w.now c.loop.w c.turn.new.self c.in-Ok.said c.loop.invariant.sound c.in-Ok.ensures.turned c.loop.invariant.covered (ap clock_of c.in-Idle.is)

pub returns-in-Some-full_clock : goal.returns-in-Some-full_clock
returns-in-Some-full_clock g c =
    let good = g.K.MemRule.good c.args.stm.now.rule in
    let stm = c.args.stm.now in
    let u = c.loop.w in
    let w = c.turn.new.self in
    let t = c.in-Ok.ensures.turned in
    let full = sym c.full_clock.ensures ∙ c.in-Some-full_clock.is in
    let limit = halts-limit good stm u w c.in-Ok.said c.in-Some-full_clock.clock c.loop.invariant.sound t full in
    record {
      sound = t.sound;
      same = worker-trans c.args.w.now u w c.loop.invariant.same (same-said (place_of u) c.in-Ok.said u w t.here t.same);
      between = halts-between good stm u w c.in-Ok.said c.in-Some-full_clock.clock c.loop.invariant.sound t full;
      through = limit;
      covered = covered-full good stm c.args.w.now u w c.in-Ok.said c.loop.invariant.sound t c.loop.invariant.covered c.in-Some-full_clock.clock full limit.2;
    }

pub loop-preserved : goal.loop-preserved
loop-preserved g c =
    let u = c.loop.w in
    let w = c.turn.new.self in
    let t = c.in-Ok.ensures.turned in
    record {
      next = tt;
      ends = tt;
      sound = t.sound;
      same = worker-trans c.args.w.now u w c.loop.invariant.same (same-said (place_of u) c.in-Ok.said u w t.here t.same);
      covered = covered-next (g.K.MemRule.good c.args.stm.now.rule) c.args.stm.now c.args.w.now u w c.in-Ok.said c.loop.invariant.sound t c.loop.invariant.covered (sym c.full_clock.ensures ∙ c.in_default-full_clock.is);
    }
