use Rattle.std.proofs.Common.{ℕ, ◌≡◌, ◌<◌, length}
use Rattle.work_script.specs.Reports.{rows_of, scripts_of}
use Rattle.work_check.proofs.replay.missing.Given as goal

abbrev pub invariant-loop-caller : goal.invariant-loop-caller
invariant-loop-caller l = (n : ℕ) → n < l.caller → length (rows_of n l.above) ≡ length (scripts_of n l.workload.items)
