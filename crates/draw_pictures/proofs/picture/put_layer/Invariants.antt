use Rattle.std.proofs.Common.{◌≡◌, ◌++◌, drop, string_bytes}
use Rattle.draw_pictures.specs.Shapes.{boxes_of}
use Rattle.draw_pictures.specs.Texts.{layer_bytes}
use Rattle.draw_pictures.proofs.picture.put_layer.Given as goal

abbrev pub invariant-loop-row : goal.invariant-loop-row
invariant-loop-row l = string_bytes l.text ++ layer_bytes l.sheet l.sort l.row (boxes_of (drop l.row l.lines)) ≡ string_bytes l.initial.text ++ layer_bytes l.sheet l.sort 0 (boxes_of l.lines)
