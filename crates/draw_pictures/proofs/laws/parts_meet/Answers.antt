use Rattle.draw_pictures.proofs.Meeting.{parts-meet}
use Rattle.draw_pictures.proofs.laws.parts_meet.Goals as goal

pub returns : goal.returns
returns c = parts-meet
