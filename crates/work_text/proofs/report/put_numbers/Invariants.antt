use Rattle.std.proofs.Common.{◌≡◌, ◌++◌, drop}
use Rattle.std.specs.List.{AllWithin}
use Rattle.work_text.specs.Reports.{spaced, IsWord}
use Rattle.work_text.proofs.report.put_numbers.Given as goal

abbrev pub invariant-loop-n : goal.invariant-loop-n
invariant-loop-n l = record {
  fits : AllWithin IsWord l.numbers 0 l.n-index;
  text : l.text.items ++ spaced (drop l.n-index l.numbers) ≡ l.initial.text.items ++ spaced l.numbers;
}
