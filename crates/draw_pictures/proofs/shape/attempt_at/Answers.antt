use Rattle.draw_pictures.proofs.Boxes.{attempt-by}
use Rattle.draw_pictures.proofs.shape.attempt_at.Goals as goal

pub returns : goal.returns
returns c = attempt-by c.args.row c.args.lane c.before-k.result c.more.result c.args.alg c.ended_by.result c.args.rest.now c.before-k.ensures.place c.more.ensures c.ended_by.ensures
