use Rattle.std.proofs.Common.{◌≡◌, ◌++◌, map, drop}
use Rattle.std.specs.List.{filter}
use Rattle.draw_pictures.specs.Parts.{is_shown}
use Rattle.draw_pictures.specs.Shapes.{boxes_of}
use Rattle.draw_pictures.specs.Standing.{standing_of, standing_rows}
use Rattle.draw_pictures.proofs.page.Page.above.Given as goal

abbrev pub invariant-loop-row : goal.invariant-loop-row
invariant-loop-row l =
    boxes_of l.shown.items ++ filter (is_shown l.self.part) (boxes_of (drop l.row-index l.rows)) ≡ filter (is_shown l.self.part) (standing_rows (map standing_of l.self.above.items))
