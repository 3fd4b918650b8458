use Rattle.data_sums.proofs.SumWithin.{removes-within, words-stay}
use Rattle.data_sums.proofs.laws.removals_stay_within.Goals as goal

pub returns : goal.returns
returns c = record {
  removes = removes-within;
  words = words-stay;
}
