use Rattle.std.proofs.Common.{◌≡◌, drop}
use Rattle.work_text.specs.Lines.{number_from}
use Rattle.work_text.proofs.lines.digits.Given as goal

abbrev pub invariant-loop-b : goal.invariant-loop-b
invariant-loop-b l = number_from 0 l.word ≡ number_from l.n (drop l.b-index l.word)
