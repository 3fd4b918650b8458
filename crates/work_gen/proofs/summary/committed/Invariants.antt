use Rattle.std.proofs.Common.{◌≡◌, ◌≤◌, ◌+◌, drop}
use Rattle.work_gen.specs.Summaries.{committed}
use Rattle.work_gen.proofs.summary.committed.Given as goal

abbrev pub invariant-loop-row : goal.invariant-loop-row
invariant-loop-row l = record {
  rest : committed l.rows ≡ l.count + committed (drop l.row-index l.rows);
  small : l.count ≤ l.row-index;
}
