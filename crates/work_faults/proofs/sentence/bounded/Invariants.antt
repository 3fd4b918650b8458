use Rattle.std.proofs.Common.{◌≤◌}
use Rattle.std.specs.Prelude.{string_len}
use Rattle.work_faults.proofs.sentence.bounded.Given as goal

abbrev pub invariant-loop-c : goal.invariant-loop-c
invariant-loop-c l = string_len l.cut ≤ 200
