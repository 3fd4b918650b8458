use Rattle.std.proofs.Common.{◌≡◌, ◌++◌, drop}
use Rattle.work_script.specs.Reports.{nonzero}
use Rattle.work_script.proofs.pairs.nonzero_words.Given as goal

-- what stands here, and then the pairs of the rest, are the pairs of all
abbrev pub invariant-loop-a : goal.invariant-loop-a
invariant-loop-a l = l.items.items ++ nonzero l.a (drop l.a l.words) ≡ nonzero 0 l.words
