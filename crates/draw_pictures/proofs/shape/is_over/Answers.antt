use Rattle.std.proofs.Common.{◌≡◌, length}
use Rattle.draw_pictures.specs.Shapes.{boxes_of}
use Rattle.draw_pictures.proofs.Boxes.{length-boxes}
use Rattle.draw_pictures.proofs.shape.is_over.Goals as goal

pub returns : goal.returns
returns c = let same : length (boxes_of c.args.rest.now) ≡ length c.args.rest.now = length-boxes c.args.rest.now in cc
