use Rattle.std.proofs.Common.{◌≡◌, ◌≤◌, ◌+◌, length}
use Rattle.work_text.specs.Drafts.{opening}
use Rattle.work_text.specs.Grammar.{parsed}
use Rattle.work_text.specs.Lines.{lines_of}
use Rattle.work_text.proofs.parse.read_lines.Given as goal

abbrev pub invariant-loop-rest : goal.invariant-loop-rest
invariant-loop-rest l =
    (parsed l.mode opening 1 (lines_of l.text) ≡ parsed l.mode l.draft l.number (lines_of l.rest)) × (l.number + length l.rest ≤ 16777217)

abbrev pub decreases-loop-rest : goal.decreases-loop-rest
decreases-loop-rest l = length l.rest
