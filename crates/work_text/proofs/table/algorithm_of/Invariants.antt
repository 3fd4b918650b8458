use Rattle.std.proofs.Common.{◌≡◌, drop}
use Rattle.work_text.specs.Grammar.{algorithm_of}
use Rattle.work_text.proofs.table.algorithm_of.Given as goal

abbrev pub invariant-loop-alg : goal.invariant-loop-alg
invariant-loop-alg l = algorithm_of l.algs l.word ≡ algorithm_of (drop l.alg-index l.algs) l.word
