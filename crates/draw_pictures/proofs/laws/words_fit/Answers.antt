use Rattle.draw_pictures.proofs.PageLaws.{words-fit}
use Rattle.draw_pictures.proofs.laws.words_fit.Goals as goal

pub returns : goal.returns
returns c = words-fit
