use Rattle.std.proofs.Common.{◌≡◌, length}
use Rattle.draw_pictures.specs.Shapes.{boxes_of}
use Rattle.draw_pictures.proofs.Boxes.{length-boxes}
use Rattle.draw_pictures.proofs.page.Page.leaf.Goals as goal

pub returns : goal.returns
returns c = let same : length (boxes_of c.args.above.now) ≡ length c.args.above.now = length-boxes c.args.above.now in cc
