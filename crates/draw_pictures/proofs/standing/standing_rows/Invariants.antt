use Rattle.std.proofs.Common.{◌≡◌, ◌++◌, map, drop}
use Rattle.draw_pictures.specs.Shapes.{boxes_of}
use Rattle.draw_pictures.specs.Standing.{standing_of, standing_rows}
use Rattle.draw_pictures.proofs.standing.standing_rows.Given as goal

abbrev pub invariant-loop-slot : goal.invariant-loop-slot
invariant-loop-slot l = boxes_of l.rows.items ++ standing_rows (map standing_of (drop l.slot-index l.slots)) ≡ standing_rows (map standing_of l.slots)
