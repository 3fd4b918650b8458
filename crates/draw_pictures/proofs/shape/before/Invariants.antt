use Rattle.std.proofs.Common.{◌≡◌, ◌+◌, drop}
use Rattle.draw_pictures.specs.Shapes.{before, boxes_of}
use Rattle.draw_pictures.proofs.shape.before.Given as goal

abbrev pub invariant-loop-i : goal.invariant-loop-i
invariant-loop-i l = before l.sought l.lane (boxes_of l.lines) ≡ before l.sought l.lane (boxes_of (drop l.i l.lines)) + l.i
