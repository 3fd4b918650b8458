use Rattle.std.proofs.Common.{◌≡◌, ◌++◌, drop}
use Rattle.draw_pictures.specs.Shapes.{boxes_of}
use Rattle.draw_pictures.proofs.page.Page.put_own.Given as goal

abbrev pub invariant-loop-row : goal.invariant-loop-row
invariant-loop-row l = boxes_of l.rows.items ++ boxes_of (drop l.row-index l.own) ≡ boxes_of l.initial.rows.items ++ boxes_of l.self.own.items
