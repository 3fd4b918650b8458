use Rattle.std.proofs.Common.{◌≡◌, ◌≤◌, ◌+◌, ◌-◌, drop}
use Rattle.draw_pictures.specs.Parts.{below}
use Rattle.draw_pictures.proofs.part.Callers.below.Given as goal

abbrev pub invariant-loop-i : goal.invariant-loop-i
invariant-loop-i l = record {
  all : l.count + below (drop l.i l.self.chosen) (l.caller - l.i) ≡ below l.self.chosen l.caller;
  few : l.count ≤ l.i;
}
