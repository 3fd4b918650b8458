use Rattle.std.proofs.Common.{◌≡◌, ◌^◌, ◌%◌, sum, take}
use Rattle.tx_transaction.proofs.words.sum_of.Given as goal

abbrev pub invariant-loop-word : goal.invariant-loop-word
invariant-loop-word l = l.total ≡ sum (take l.word-index l.words) % 2 ^ 64
