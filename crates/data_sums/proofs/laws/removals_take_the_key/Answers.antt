use Rattle.data_sums.proofs.SumGone.{removes-key}
use Rattle.data_sums.proofs.laws.removals_take_the_key.Goals as goal

pub returns : goal.returns
returns c = removes-key
