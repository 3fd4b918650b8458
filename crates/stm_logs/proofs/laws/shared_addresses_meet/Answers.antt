use Rattle.stm_logs.specs.Filters.{filter_word}
use Rattle.stm_logs.proofs.FilterLemmas.{filter-has, shared-meet}
use Rattle.stm_logs.proofs.laws.shared_addresses_meet.Goals as goal

pub returns : goal.returns
returns c = λ a xs ys h j. shared-meet a (filter_word xs) (filter_word ys) (filter-has a xs h) (filter-has a ys j)
