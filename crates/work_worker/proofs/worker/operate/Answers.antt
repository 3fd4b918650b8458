use Rattle.std.proofs.Common.{rules}
use Rattle.stm_answers.specs.CallerState.{caller_of}
use Rattle.stm_tx.specs.Descs.{known}
use Rattle.work_worker.proofs.StopLaws.{stopped-by}
use Rattle.work_worker.proofs.worker.operate.Goals as goal

pub invariant_of-live-clause-own : goal.invariant_of-live-clause-own
invariant_of-live-clause-own g c = c.requires.own

pub invariant_of-live-clause-runs : goal.invariant_of-live-clause-runs
invariant_of-live-clause-runs g c = c.requires.runs.0

pub invariant_of-live-clause-open : goal.invariant_of-live-clause-open
invariant_of-live-clause-open g c = λ e. c.requires.runs.1

pub returns-clause-stopped : goal.returns-clause-stopped
returns-clause-stopped g c =
    let stopped = stopped-by (g.K.MemRule.good c.args.stm.now.rule) c.args.stm.now.config (caller_of c.args.desc.now.who.role) c.args.op
    c.perform.result _ (known c.args.desc.now) _ c.perform.ensures.stops c.perform.ensures.keeps.0.1 c.perform.ensures.cause in
    search (rules, stopped)

pub invariant_of-live-clause-unfenced : goal.invariant_of-live-clause-unfenced
invariant_of-live-clause-unfenced g c = λ e. c.requires.unfenced
