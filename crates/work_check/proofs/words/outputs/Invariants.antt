use Rattle.std.proofs.Common.{◌≡◌, length}
use Rattle.work_check.specs.Grammar.{words_left, outputs_of}
use Rattle.work_check.proofs.WordsLaws.{replied}
use Rattle.work_check.proofs.words.outputs.Given as goal

abbrev pub invariant-loop-rest : goal.invariant-loop-rest
invariant-loop-rest l = outputs_of (words_left l.from) ≡ replied l.replies.items (outputs_of (words_left l.rest))

abbrev pub decreases-loop-rest : goal.decreases-loop-rest
decreases-loop-rest l = length l.rest
