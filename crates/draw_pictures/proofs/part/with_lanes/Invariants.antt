use Rattle.std.proofs.Common.{◌≡◌, drop}
use Rattle.draw_pictures.specs.Parts.{with_lanes}
use Rattle.draw_pictures.specs.Shapes.{boxes_of}
use Rattle.draw_pictures.proofs.part.with_lanes.Given as goal

abbrev pub invariant-loop-row : goal.invariant-loop-row
invariant-loop-row l = with_lanes l.all (boxes_of (drop l.row-index l.rows)) ≡ with_lanes l.fn.callers (boxes_of l.rows)
