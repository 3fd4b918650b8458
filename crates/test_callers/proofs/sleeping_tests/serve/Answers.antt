use Rattle.std.proofs.Common.{set}
use Rattle.tx_atomic.specs.CallerLaws.{ready-all, ready-set}
use Rattle.test_callers.proofs.sleeping_tests.serve.Goals as goal

pub work_all-requires-clause-ready : goal.work_all-requires-clause-ready
work_all-requires-clause-ready g c κs within =
    let stm = c.args.stm.now in
    let ds = c.args.descs.now in
    let d = c.switch_to.new.desc in
    ready-all stm 0 (set ds 0 d) (ready-set stm 0 0 ds c.index-descs-0.result d c.requires.ready c.switch_to.ensures.through c.requires.some)
