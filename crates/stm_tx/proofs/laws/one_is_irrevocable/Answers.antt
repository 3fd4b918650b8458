use Rattle.stm_rule.specs.Kept.{good_of}
use Rattle.stm_tx.proofs.FixedLaws.{one-is-fixed}
use Rattle.stm_tx.proofs.laws.one_is_irrevocable.Goals as goal

pub returns : goal.returns
returns g c = λ rule config m n own other w r i j. one-is-fixed (good_of g.K.MemRule.good config rule) config w r m n own other i j
