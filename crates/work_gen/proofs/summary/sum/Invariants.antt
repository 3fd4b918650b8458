use Rattle.std.proofs.Common.{◌≡◌, ◌%◌, ◌^◌}
use Rattle.work_gen.specs.Summaries.{sum_in}
use Rattle.work_gen.proofs.summary.sum.Given as goal

abbrev pub invariant-loop-i : goal.invariant-loop-i
invariant-loop-i l = l.sum ≡ sum_in l.memory l.address l.i % 2 ^ 64
