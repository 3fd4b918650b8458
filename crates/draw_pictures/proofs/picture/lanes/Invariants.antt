use Rattle.std.proofs.Common.{◌≡◌, ◌≤◌, ◌^◌, drop}
use Rattle.std.specs.Prelude.{max}
use Rattle.draw_pictures.specs.Shapes.{boxes_of}
use Rattle.draw_pictures.specs.Texts.{lanes_of}
use Rattle.draw_pictures.proofs.picture.lanes.Given as goal

abbrev pub invariant-loop-line : goal.invariant-loop-line
invariant-loop-line l = record {
  all : max l.lanes (lanes_of l.callers (boxes_of (drop l.line-index l.lines))) ≡ lanes_of l.callers (boxes_of l.lines);
  few : l.lanes ≤ 2 ^ 64;
}
