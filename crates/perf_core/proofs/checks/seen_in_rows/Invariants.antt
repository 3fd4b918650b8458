use Rattle.std.proofs.Common.{◌≡◌, ◌≤◌, ◌*◌, ◌^◌}
use Rattle.perf_core.specs.Rows.{seen_in}
use Rattle.perf_core.proofs.checks.seen_in_rows.Given as goal

abbrev pub invariant-loop-i : goal.invariant-loop-i
invariant-loop-i l = record {
  seen : l.seen ≡ seen_in l.i l.words;
  few : l.seen ≤ l.i * 2 ^ 64;
}
