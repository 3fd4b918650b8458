use Rattle.std.proofs.Common.{List, subst, sym, ap, ◌∙◌}
use Rattle.crossbeam_utils.specs.declared.cache_padded.CachePadded.{CachePadded}
use Rattle.tx_atomic.specs.Callers.{AllReady}
use Rattle.tx_atomic.specs.CallerLaws.{ready-idle}
use Rattle.perf_core.specs.declared.caller.Caller.{Caller}
use Rattle.perf_core.specs.Callers.{descs_in}
use Rattle.perf_core.proofs.CallerLaws.{ready-callers, each-worked, came-back}
use Rattle.perf_core.proofs.run.run.Goals as goal

pub work_all-requires-clause-ready : goal.work_all-requires-clause-ready
work_all-requires-clause-ready g c κs within =
    let stm = c.in_ok-stm.stm in
    let hired = subst (AllReady stm 0) (sym c.in_ok-callers.ensures) c.in_ok-stm.ensures.ready in
    ready-callers stm c.as_mut_slice.result.now (subst (λ (cs : List (CachePadded Caller)). AllReady stm 0 (descs_in cs)) (sym c.as_mut_slice.ensures.value) hired)

pub close-requires-clause-descs : goal.close-requires-clause-descs
close-requires-clause-descs g c =
    let stm = c.in_ok-stm.stm in
    let callers = c.in_ok-callers.callers in
    let lent = c.as_mut_slice.result.now in
    let left = c.work_all.new.callers in
    let hired = subst (AllReady stm 0) (sym c.in_ok-callers.ensures) c.in_ok-stm.ensures.ready in
    let ready = subst (λ (cs : List (CachePadded Caller)). AllReady stm 0 (descs_in cs)) (sym c.as_mut_slice.ensures.value) hired in
    let worked = each-worked stm lent left ready c.work_all.ensures.count c.work_all.ensures.done in
    let back = came-back callers.items lent left callers.len c.as_mut_slice.ensures.value c.as_mut_slice.ensures.len c.work_all.ensures.count in
    ready-idle stm c.in_ok-stm.ensures.plain 0 c.dismiss-descs.result.items (subst (AllReady stm 0) (sym (c.dismiss-descs.ensures ∙ ap descs_in back)) worked)
