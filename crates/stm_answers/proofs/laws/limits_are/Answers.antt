use Rattle.std.proofs.Common.{refl}
use Rattle.stm_answers.proofs.laws.limits_are.Goals as goal

pub returns : goal.returns
returns c = record { slot_words = refl }
