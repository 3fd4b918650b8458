use Rattle.std.proofs.Common.{rules, subst, sym}
use Rattle.stm_rule.specs.Callers.{Handle}
use Rattle.tx_start.specs.Lefts.{Works}
use Rattle.std.specs.Prelude.{slice_index_or}
use Rattle.tx_start.proofs.working.work_all.Goals as goal

pub returns-clause-done : goal.returns-clause-done
returns-clause-done g c = λ i d e lt.
    let at = (c.in_ok-left.ensures.each i d lt).1 in
    let call = at.call in
    let stm = c.args.stm.now in
    let done : Works (g.K.MemRule.good stm.rule) stm.config (g.J.Job.postcondition c.args.job.now stm.rule stm.config.words) at.job (slice_index_or c.in_ok-left.left.items i d) = search rules in
    subst (λ (x : Handle g.row.K.Denot). Works (g.K.MemRule.good stm.rule) stm.config (g.J.Job.postcondition c.args.job.now stm.rule stm.config.words) x (slice_index_or c.in_ok-left.left.items i d)) (sym (at.job_is e)) done
