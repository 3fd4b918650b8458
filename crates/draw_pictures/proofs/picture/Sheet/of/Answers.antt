use Rattle.std.proofs.Common.{◌≡◌, length}
use Rattle.draw_pictures.specs.Shapes.{boxes_of}
use Rattle.draw_pictures.proofs.Boxes.{length-boxes}
use Rattle.draw_pictures.proofs.picture.Sheet.of.Goals as goal

pub returns-clause-is : goal.returns-clause-is
returns-clause-is c = let same : length (boxes_of c.args.lines.now) ≡ length c.args.lines.now = length-boxes c.args.lines.now in cc
