use Rattle.std.proofs.Common.{◌≡◌, ◌≤◌, ◌+◌, drop, length}
use Rattle.work_check.specs.Verdicts.{alike}
use Rattle.work_check.proofs.replay.alike.Given as goal

abbrev pub invariant-loop-i : goal.invariant-loop-i
invariant-loop-i l = record {
  alike : alike l.told l.left ≡ l.i + alike (drop l.i l.told) (drop l.i l.left);
  within : l.i ≤ length l.left;
}
