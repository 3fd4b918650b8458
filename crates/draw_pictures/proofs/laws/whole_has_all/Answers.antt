use Rattle.draw_pictures.proofs.PageLaws.{whole-has-all}
use Rattle.draw_pictures.proofs.laws.whole_has_all.Goals as goal

pub returns : goal.returns
returns c = whole-has-all
