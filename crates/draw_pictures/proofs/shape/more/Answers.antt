use Rattle.std.proofs.Common.{arith}
use Rattle.draw_pictures.proofs.Boxes.{length-boxes}
use Rattle.draw_pictures.proofs.shape.more.Goals as goal

pub returns-then-k-lines : goal.returns-then-k-lines
returns-then-k-lines c = let same = length-boxes c.args.lines.now in let less = c.if-k-lines.true in omega (arith, same, less)

pub returns-else-k-lines : goal.returns-else-k-lines
returns-else-k-lines c = let same = length-boxes c.args.lines.now in let most = c.if-k-lines.false in omega (arith, same, most)
