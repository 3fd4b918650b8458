use Rattle.std.proofs.Common.{ℕ, ◌≡◌, ◌≤◌, ◌+◌, length, drop}
use Rattle.work_text.specs.Lines.{lines_of}
use Rattle.work_check.specs.Apart.{titled}
use Rattle.work_check.proofs.apart.report_in.Given as goal

abbrev pub invariant-loop-i : goal.invariant-loop-i
invariant-loop-i l = record {
  same : titled 0 (lines_of l.told) ≡ titled l.above (lines_of l.rest);
  cut : (k : ℕ) × (l.rest ≡ drop k l.told);
  within : l.above + length l.rest ≤ length l.told;
}

abbrev pub decreases-loop-i : goal.decreases-loop-i
decreases-loop-i l = length l.rest
