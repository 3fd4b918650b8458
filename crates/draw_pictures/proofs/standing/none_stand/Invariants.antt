use Rattle.std.proofs.Common.{◌≡◌, ◌++◌, ◌-◌, map}
use Rattle.draw_pictures.specs.Standing.{none_stand, of_lanes, standing_of}
use Rattle.draw_pictures.proofs.standing.none_stand.Given as goal

abbrev pub invariant-loop-lane : goal.invariant-loop-lane
invariant-loop-lane l = map standing_of l.slots.items ++ of_lanes l.lane (32 - l.lane) ≡ none_stand
