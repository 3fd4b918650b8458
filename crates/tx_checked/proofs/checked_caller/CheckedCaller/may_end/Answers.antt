use Rattle.std.proofs.Common.{refl}
use Rattle.std.specs.Arc.{arc_value}
use Rattle.tx_checked.proofs.checked_caller.CheckedCaller.may_end.Goals as goal

pub returns-clause-some : goal.returns-clause-some
returns-clause-some c = (arc_value c.args.self.now.stm).ranges.words.0

pub returns-clause-blocks : goal.returns-clause-blocks
returns-clause-blocks c = λ big. (refl, (arc_value c.args.self.now.stm).ranges.fenced c.in_ok-closing.ensures.takes big)
