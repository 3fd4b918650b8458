use Rattle.std.proofs.Common.{subst, sym, ◌<◌, ◌≤◌}
use Rattle.work_driver.specs.AllWorkers.{workers_in}
use Rattle.work_driver.proofs.IdleLaws.{next-sound, next-idle, idle-all}
use Rattle.work_driver.proofs.WorkersLaws.{workers-length}
use Rattle.work_driver.proofs.closing.make_all_idle.Goals as goal

pub idle_one-requires : goal.idle_one-requires
idle_one-requires g c = next-sound (g.K.MemRule.good c.args.stm.now.rule) c.args.stm.now c.loop-runner.runner-index c.args.runners.now c.loop-runner.runners c.runner-item.result c.loop-runner-test.true
    (subst (λ k. c.loop-runner.runner-index < k) (sym c.loop-runner.auto.runners) c.loop-runner-test.true) c.loop-runner.invariant c.requires

pub loop-runner-preserved : goal.loop-runner-preserved
loop-runner-preserved g c = next-idle (g.K.MemRule.good c.args.stm.now.rule) c.args.stm.now c.loop-runner.runner-index c.args.runners.now c.loop-runner.runners c.runner-item.result c.idle_one.new.runner
    (subst (λ k. c.loop-runner.runner-index < k) (sym c.loop-runner.auto.runners) c.loop-runner-test.true) c.loop-runner.invariant c.idle_one.ensures

pub returns : goal.returns
returns g c = idle-all (g.K.MemRule.good c.args.stm.now.rule) c.args.stm.now c.loop-runner.runner-index (workers_in c.args.runners.now) (workers_in c.loop-runner.runners)
    (subst (λ k. k ≤ c.loop-runner.runner-index) (sym (workers-length c.args.runners.now)) c.loop-runner-test.false) c.loop-runner.invariant
