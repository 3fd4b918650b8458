use Rattle.std.proofs.Common.{set}
use Rattle.tx_atomic.specs.CallerLaws.{ready-all, ready-each, ready-set}
use Rattle.test_callers.proofs.tx_atomic_tests.serve.Goals as goal

pub count_all-requires-clause-ready : goal.count_all-requires-clause-ready
count_all-requires-clause-ready g c κs within =
    let stm = c.args.stm.now in
    let ds = c.args.descs.now in
    let d = c.switch_to.new.desc in
    ready-all stm 0 (set ds 0 d) (ready-set stm 0 0 ds c.index-descs-0.result d c.requires.ready c.switch_to.ensures.through c.requires.some)

pub returns-clause-ready : goal.returns-clause-ready
returns-clause-ready g c =
    let stm = c.args.stm.now in
    let ds = c.args.descs.now in
    let d = c.switch_to.new.desc in
    let switched = ready-set stm 0 0 ds c.index-descs-0.result d c.requires.ready c.switch_to.ensures.through c.requires.some in
    ready-each stm 0 (set ds 0 d) c.count_all.new.descs switched c.count_all.ensures.count c.count_all.ensures.done
