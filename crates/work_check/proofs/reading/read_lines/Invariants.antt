use Rattle.std.proofs.Common.{◌≡◌, ◌≤◌, ◌+◌, length}
use Rattle.work_text.specs.Lines.{lines_of}
use Rattle.work_check.specs.Grammar.{opening, read}
use Rattle.work_check.proofs.reading.read_lines.Given as goal

abbrev pub invariant-loop-i : goal.invariant-loop-i
invariant-loop-i l = record {
  rest : read opening 1 (lines_of l.text) ≡ read l.draft l.number (lines_of l.rest);
  count : l.number + length l.rest ≤ 134217729;
}

abbrev pub decreases-loop-i : goal.decreases-loop-i
decreases-loop-i l = length l.rest
