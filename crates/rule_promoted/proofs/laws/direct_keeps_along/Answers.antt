use Rattle.rule_base.specs.Bridge.{of_words}
use Rattle.rule_promoted.proofs.PromotedRunLaws.{direct_keeps_along_lem}
use Rattle.rule_promoted.proofs.laws.direct_keeps_along.Goals as goal

pub returns : goal.returns
returns g c = λ rule config alg caller. direct_keeps_along_lem (of_words (g.K.MemRule.good rule) config.words) config alg caller
