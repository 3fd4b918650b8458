use Rattle.std.proofs.Common.{◌≡◌, ◌≤◌, ◌+◌, length}
use Rattle.draw_core.proofs.ReadLaws.{ReadSoFar}
use Rattle.draw_core.proofs.reading.walk_lines.Given as goal

abbrev pub invariant-loop-i : goal.invariant-loop-i
invariant-loop-i l = record {
  read : ReadSoFar l.text l.rest l.number l.walk;
  count : l.number + length l.rest ≤ 134217729;
  lines : l.walk.page.lines + 1 ≤ l.number;
  first : 1 ≤ l.number;
  workload : l.walk.workload ≡ l.initial.walk.workload;
  above : l.walk.above ≡ l.initial.walk.above;
  part : l.walk.page.part ≡ l.initial.walk.page.part;
}

abbrev pub decreases-loop-i : goal.decreases-loop-i
decreases-loop-i l = length l.rest
