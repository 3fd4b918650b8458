use Rattle.std.proofs.Common.{◌≡◌, drop}
use Rattle.std.specs.Prelude.{Some}
use Rattle.draw_core.specs.Asking.{ask_of, nothing, taken_all, texts_of}
use Rattle.draw_core.proofs.asking.asked.Given as goal

abbrev pub invariant-loop-i : goal.invariant-loop-i
invariant-loop-i l = taken_all (Some nothing) (texts_of (drop 1 l.words)) ≡ taken_all (Some (ask_of l.ask)) (texts_of (drop l.i l.words))
