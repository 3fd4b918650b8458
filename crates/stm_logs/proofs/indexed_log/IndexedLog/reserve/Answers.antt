use Rattle.std.proofs.Common.{◌+◌, take, refl, ap, ◌∙◌, arith}
use Rattle.stm_logs.specs.LogStates.{LogState}
use Rattle.stm_logs.proofs.PushLemmas.{pushes-next}
use Rattle.stm_logs.proofs.indexed_log.IndexedLog.reserve.Goals as goal

pub loop-a-preserved : goal.loop-a-preserved
loop-a-preserved c =
    let xs = c.deref-a-items.result.now in
    let k = c.loop-a.a-index in
    let is = c.loop-a.invariant in
    let next = pushes-next c.loop-a.grown c.push.new.self _ _ k xs c.push.result (rw c.deref-a-items.ensures.value c.self.invariant.0.once)
    c.loop-a-test.true refl (ap (λ (h : LogState). h.items) is)
    (rw is (omega (arith, c.self.invariant.2, c.if-len-self.false, c.deref-a-items.ensures.len))) c.push.ensures in
    next ∙ ap (λ (h : LogState). let r : LogState = record h { items = take (k + 1) xs } in r) is
