use Rattle.std.proofs.Common.{◌≡◌, ◌^◌, ◌%◌, sum, take}
use Rattle.example_queue_jobs.proofs.day.sum_in.Given as goal

abbrev pub invariant-loop-job : goal.invariant-loop-job
invariant-loop-job l = l.total ≡ sum (take l.job-index l.jobs) % 2 ^ 64
