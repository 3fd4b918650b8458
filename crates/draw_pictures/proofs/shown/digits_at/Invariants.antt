use Rattle.std.proofs.Common.{◌≡◌, ◌+◌, drop}
use Rattle.draw_pictures.specs.Shown.{digits_at}
use Rattle.draw_pictures.proofs.shown.digits_at.Given as goal

abbrev pub invariant-loop-i : goal.invariant-loop-i
invariant-loop-i l = digits_at l.bytes ≡ digits_at (drop l.i l.bytes) + l.i
