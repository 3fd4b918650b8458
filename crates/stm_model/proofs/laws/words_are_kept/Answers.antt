use Rattle.stm_model.specs.Memories.{overlay}
use Rattle.stm_model.proofs.Written.{overlay-words}
use Rattle.stm_model.proofs.laws.words_are_kept.Goals as goal

pub returns : goal.returns
returns g c = λ rule words l every small m fine long sees are. every (overlay m l.writes) (overlay-words m l.writes are small)
