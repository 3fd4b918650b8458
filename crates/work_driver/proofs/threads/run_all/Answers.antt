use Rattle.std.proofs.Common.{slice_index_or, rules}
use Rattle.work_driver.specs.AllWorkers.{Finished}
use Rattle.work_driver.proofs.WorkersLaws.{finished-as}
use Rattle.work_driver.proofs.threads.run_all.Goals as goal

pub returns-clause-done : goal.returns-clause-done
returns-clause-done g c = λ i d lt.
    let stm = c.args.stm.now in
    let at = (c.for_each_mut.ensures i d lt).1 in
    let call = at.call in
    let done : Finished (g.K.MemRule.good stm.rule) stm at.argument.now at.after_call.now = search rules in
    finished-as (g.K.MemRule.good stm.rule) stm at.argument.now at.after_call.now (slice_index_or c.args.runners.now i d) (slice_index_or c.for_each_mut.new.s i d) at.argument_is at.left done
