use Rattle.std.proofs.Common.{lit<, lit≤}
use Rattle.example_queue.specs.declared.TheConstants.{PLAN}
use Rattle.example_queue_jobs.specs.Days.{IsPlan}
use Rattle.example_queue.proofs.main.Goals as goal

planned : IsPlan PLAN
planned = record { room = (lit< tt, lit≤ tt); callers = (lit< tt, lit≤ tt); jobs = lit< tt }

pub work_off-requires-clause-plan : goal.work_off-requires-clause-plan
work_off-requires-clause-plan c d κs = planned

pub jobs-jobs-requires : goal.jobs-jobs-requires
jobs-jobs-requires c d = record { plan = planned }

pub is_done-requires-clause-plan : goal.is_done-requires-clause-plan
is_done-requires-clause-plan c d = planned
