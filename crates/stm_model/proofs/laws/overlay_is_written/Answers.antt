use Rattle.stm_model.proofs.Written.{overlay-written}
use Rattle.stm_model.proofs.laws.overlay_is_written.Goals as goal

pub returns : goal.returns
returns c = overlay-written
