use Rattle.std.proofs.Common.{◌≡◌, drop}
use Rattle.work_gen.specs.Summaries.{word_in}
use Rattle.work_gen.proofs.summary.word.Given as goal

abbrev pub invariant-loop-pair : goal.invariant-loop-pair
invariant-loop-pair l = word_in l.memory l.address ≡ word_in (drop l.pair-index l.memory) l.address
