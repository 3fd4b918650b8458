use Rattle.std.proofs.Common.{◌≡◌, ◌++◌, drop}
use Rattle.stm_model.specs.Plains.{openings}
use Rattle.work_check.proofs.ledger.Ledger.values.Given as goal

abbrev pub invariant-loop-word : goal.invariant-loop-word
invariant-loop-word l = l.values.items ++ openings (drop l.word-index l.word-items) ≡ openings l.word-items
