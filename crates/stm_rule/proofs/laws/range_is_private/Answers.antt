use Rattle.stm_rule.specs.Kept.{good_of}
use Rattle.stm_rule.proofs.Privatizing.{range_is_private_lem}
use Rattle.stm_rule.proofs.laws.range_is_private.Goals as goal

pub returns : goal.returns
returns g c = λ rule config. range_is_private_lem (good_of g.K.MemRule.good config rule) config
