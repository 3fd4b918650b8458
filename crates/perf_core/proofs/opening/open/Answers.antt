use Rattle.std.proofs.Common.{◌<◌, length, ap, subst, arith}
use Rattle.stm_model.specs.declared.config.Config.{Config}
use Rattle.stm_rule.specs.Callers.{Handle, IsSameCaller}
use Rattle.tx_atomic.specs.CallerLaws.{opened-ready, ready-set}
use Rattle.perf_core.specs.declared.work_region.WorkRegion.{WorkRegion}
use Rattle.perf_core.proofs.opening.open.Goals as goal

pub returns-clause-ready : goal.returns-clause-ready
returns-clause-ready g c =
    let stm = c.in_ok-stm.stm in
    let ds = c.in_ok-stm.descs.items in
    let d = c.index_mut.result.now in
    let e = c.begin.new.desc in
    let same = subst (λ (h : Handle WorkRegion). IsSameCaller h e) c.index_mut.ensures.value c.begin.ensures.same in
    let count = c.in_ok-stm.ensures.descs.1 in
    let asked = ap (λ (k : Config). k.callers) c.in_ok-stm.ensures.stm.0 in
    let some : 0 < length ds = let least = stm.ranges.callers.0 in omega arith in
    ready-set stm 0 0 ds d e (opened-ready stm 0 ds c.in_ok-stm.ensures.descs.0) (record { same = same; idle = c.begin.ensures.idle }) some
