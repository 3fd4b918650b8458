use Rattle.std.proofs.Common.{◌≡◌, ◌++◌, drop}
use Rattle.std.specs.List.{AllWithin}
use Rattle.work_text.specs.Reports.{memory_lines, PairFits}
use Rattle.work_text.proofs.report.put_memory.Given as goal

abbrev pub invariant-loop-word : goal.invariant-loop-word
invariant-loop-word l = record {
  fits : AllWithin PairFits l.words 0 l.word-index;
  text : l.text.items ++ memory_lines (drop l.word-index l.words) ≡ l.initial.text.items ++ memory_lines l.words;
}
