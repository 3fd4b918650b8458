use Rattle.stm_logs.proofs.FilterLemmas.{filter-has}
use Rattle.stm_logs.proofs.laws.filters_have_their_addresses.Goals as goal

pub returns : goal.returns
returns c = filter-has
