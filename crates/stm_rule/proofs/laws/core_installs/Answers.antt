use Rattle.stm_rule.specs.Kept.{good_of}
use Rattle.stm_rule.proofs.CoreLaws.{core_installs_lem}
use Rattle.stm_rule.proofs.laws.core_installs.Goals as goal

pub returns : goal.returns
returns g c = λ rule config. core_installs_lem (good_of g.K.MemRule.good config rule) config
