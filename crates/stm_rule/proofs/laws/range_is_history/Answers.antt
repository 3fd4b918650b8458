use Rattle.stm_rule.specs.Kept.{good_of}
use Rattle.stm_rule.proofs.RangeHistory.{range_is_history_lem}
use Rattle.stm_rule.proofs.laws.range_is_history.Goals as goal

pub returns : goal.returns
returns g c = λ rule config. range_is_history_lem (good_of g.K.MemRule.good config rule) config
