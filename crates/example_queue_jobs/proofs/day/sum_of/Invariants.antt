use Rattle.std.proofs.Common.{◌≡◌, ◌^◌, ◌%◌, take}
use Rattle.example_queue_jobs.specs.Days.{sum_taken}
use Rattle.example_queue_jobs.proofs.day.sum_of.Given as goal

abbrev pub invariant-loop-hand : goal.invariant-loop-hand
invariant-loop-hand l = l.total ≡ sum_taken (take l.hand-index l.hands) % 2 ^ 64
