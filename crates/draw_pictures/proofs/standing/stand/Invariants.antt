use Rattle.std.proofs.Common.{◌≡◌, length, map}
use Rattle.draw_pictures.specs.Shapes.{box_of}
use Rattle.draw_pictures.specs.Standing.{standing_of}
use Rattle.draw_pictures.proofs.Slots.{after_first}
use Rattle.draw_pictures.proofs.standing.stand.Given as goal

abbrev pub invariant-loop-i : goal.invariant-loop-i
invariant-loop-i l = record {
  are : map standing_of l.slots.items ≡ after_first (box_of l.row) l.i (map standing_of l.initial.slots.items);
  long : length l.slots.items ≡ length l.initial.slots.items;
}
