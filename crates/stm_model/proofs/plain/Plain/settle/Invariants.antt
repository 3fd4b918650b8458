use Rattle.std.proofs.Common.{◌≡◌}
use Rattle.std.specs.Prelude.{drop, ◌||◌}
use Rattle.stm_model.specs.Memories.{AreWords}
use Rattle.stm_model.specs.Plains.{openings, settled, change_first, any_own}
use Rattle.stm_model.proofs.plain.Plain.settle.Given as goal

abbrev pub invariant-loop-i : goal.invariant-loop-i
invariant-loop-i l = (l.self-inside.words.items ≡ change_first settled l.i l.initial.self-inside.words.items)
    × AreWords (openings l.self-inside.words.items)
    × (l.wrote || any_own (drop l.i l.initial.self-inside.words.items) ≡ any_own l.initial.self-inside.words.items)
