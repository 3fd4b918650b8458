use Rattle.std.proofs.Common.{◌≡◌, length}
use Rattle.work_check.specs.Grammar.{words_left, numbers_of}
use Rattle.work_check.proofs.WordsLaws.{behind}
use Rattle.work_check.proofs.words.numbers.Given as goal

abbrev pub invariant-loop-rest : goal.invariant-loop-rest
invariant-loop-rest l = numbers_of (words_left l.from) ≡ behind l.found.items (numbers_of (words_left l.rest))

abbrev pub decreases-loop-rest : goal.decreases-loop-rest
decreases-loop-rest l = length l.rest
