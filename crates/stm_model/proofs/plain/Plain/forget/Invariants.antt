use Rattle.std.proofs.Common.{◌≡◌}
use Rattle.stm_model.specs.Plains.{forgotten, change_first}
use Rattle.stm_model.proofs.plain.Plain.forget.Given as goal

abbrev pub invariant-loop-i : goal.invariant-loop-i
invariant-loop-i l = l.self-inside.words.items ≡ change_first forgotten l.i l.initial.self-inside.words.items
