use Rattle.std.proofs.Common.{arith}
use Rattle.std.proofs.Math.Nat.{div-le_self}
use Rattle.example_queue_jobs.proofs.plan.Plan.share.Goals as goal

pub nonzero_rem-jobs : goal.nonzero_rem-jobs
nonzero_rem-jobs c = let some = c.requires.plan.callers.0 in omega (arith, some)

pub nonzero_div-result : goal.nonzero_div-result
nonzero_div-result c = let some = c.requires.plan.callers.0 in omega (arith, some)

pub nonzero_div-result-else-worker-jobs : goal.nonzero_div-result-else-worker-jobs
nonzero_div-result-else-worker-jobs c = let some = c.requires.plan.callers.0 in omega (arith, some)

pub overflow_add-result : goal.overflow_add-result
overflow_add-result c =
    let few = c.requires.plan.jobs in
    let all = c.jobs-jobs.ensures in
    let less = div-le_self c.jobs-jobs.result c.args.self.now.workers in
    omega (arith, few, all, less)
