use Rattle.std.proofs.Common.{arith}
use Rattle.example_queue_jobs.proofs.plan.Plan.jobs.Goals as goal

pub overflow_cast-result : goal.overflow_cast-result
overflow_cast-result c = let few = c.requires.plan.callers.1 in omega (arith, few)

pub overflow_mul-result : goal.overflow_mul-result
overflow_mul-result c = let few = c.requires.plan.jobs in omega (arith, few)
