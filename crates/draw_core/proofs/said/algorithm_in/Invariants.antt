use Rattle.std.proofs.Common.{◌≡◌, drop}
use Rattle.draw_core.specs.Grammar.{alg_in}
use Rattle.draw_core.proofs.said.algorithm_in.Given as goal

abbrev pub invariant-loop-alg : goal.invariant-loop-alg
invariant-loop-alg l = alg_in l.algs l.word ≡ alg_in (drop l.alg-index l.algs) l.word
