use Rattle.draw_pictures.proofs.PageLaws.{few-stand}
use Rattle.draw_pictures.proofs.laws.few_stand.Goals as goal

pub returns : goal.returns
returns c = few-stand
