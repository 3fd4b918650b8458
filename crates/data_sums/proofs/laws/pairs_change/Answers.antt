use Rattle.data_sums.proofs.SumContents.{puts-pair}
use Rattle.data_sums.proofs.SumRegions.{sums-subtrees}
use Rattle.data_sums.proofs.laws.pairs_change.Goals as goal

pub returns : goal.returns
returns c = record {
  puts = puts-pair;
  sums = sums-subtrees;
}
