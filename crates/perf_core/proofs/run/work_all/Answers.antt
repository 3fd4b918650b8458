use Rattle.std.proofs.Common.{slice_index_or, rules}
use Rattle.tx_atomic.specs.Callers.{IsThrough}
use Rattle.perf_core.specs.Callers.{desc_in}
use Rattle.perf_core.proofs.CallerLaws.{through-as}
use Rattle.perf_core.proofs.run.work_all.Goals as goal

pub returns-clause-done : goal.returns-clause-done
returns-clause-done g c = λ i d lt.
    let at = (c.for_each_mut.ensures i d lt).1 in
    let call = at.call in
    let done : IsThrough (desc_in at.argument.now) (desc_in at.after_call.now) = search rules in
    through-as at.argument.now at.after_call.now (slice_index_or c.args.callers.now i d) (slice_index_or c.for_each_mut.new.s i d) at.argument_is at.left done
