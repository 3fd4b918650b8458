use Rattle.std.proofs.Common.{◌∙◌}
use Rattle.tx_loops.proofs.looping_caller.LoopingCaller.has_looked.Goals as goal

pub returns-then-watch-self : goal.returns-then-watch-self
returns-then-watch-self c = λ covers. (c.in-Some.watch, c.in-Some.is, λ same. c.if-watch-self.true (c.in-Some.watch.counted ∙ same))
