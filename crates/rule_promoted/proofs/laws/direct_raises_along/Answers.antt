use Rattle.rule_base.specs.Bridge.{of_words}
use Rattle.rule_promoted.proofs.RaisingLaws.{direct_raises_clock, direct_ups}
use Rattle.rule_promoted.proofs.laws.direct_raises_along.Goals as goal

pub returns : goal.returns
returns g c = record {
  raises_clock = λ rule config caller least low. direct_raises_clock (of_words (g.K.MemRule.good rule) config.words) config caller least low;
  ups = λ rule config caller r version. direct_ups (of_words (g.K.MemRule.good rule) config.words) config caller r version;
}
