use Rattle.std.proofs.Common.{◌≡◌, length}
use Rattle.draw_core.specs.Chosen.{callers_in, parted_by, with_words}
use Rattle.draw_core.proofs.chosen.callers_of.Given as goal

abbrev pub invariant-loop-i : goal.invariant-loop-i
invariant-loop-i l = callers_in l.bytes ≡ with_words l.callers (parted_by 44 l.rest)

abbrev pub decreases-loop-i : goal.decreases-loop-i
decreases-loop-i l = length l.rest
