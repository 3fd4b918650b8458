use Rattle.std.proofs.Common.{◌≡◌, Err, drop}
use Rattle.work_text.specs.Lines.{lines_of}
use Rattle.work_text.specs.Reading.{judged}
use Rattle.work_text.specs.declared.code.TheConstants.{WORD}
use Rattle.work_text.proofs.table.too_many.Given as goal

abbrev pub invariant-loop-b : goal.invariant-loop-b
invariant-loop-b l = judged (λ ws. Err WORD) (lines_of l.text) ≡ judged (λ ws. Err WORD) (lines_of (drop l.b-index l.text))
