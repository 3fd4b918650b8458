use Rattle.draw_core.proofs.ReadLaws.{no-words}
use Rattle.draw_core.proofs.said.is_last.Goals as goal

pub returns : goal.returns
returns c = no-words c.args.rest.now c.is_empty.result c.is_empty.ensures
