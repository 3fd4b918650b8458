use Rattle.stm_tx.proofs.CostLaws.{within}
use Rattle.stm_tx.proofs.laws.costs_are_bounded.Goals as goal

pub returns : goal.returns
returns c = within
