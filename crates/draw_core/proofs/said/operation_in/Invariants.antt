use Rattle.std.proofs.Common.{◌≡◌, drop}
use Rattle.draw_core.specs.Grammar.{op_in}
use Rattle.draw_core.proofs.said.operation_in.Given as goal

abbrev pub invariant-loop-op : goal.invariant-loop-op
invariant-loop-op l = op_in l.ops l.word ≡ op_in (drop l.op-index l.ops) l.word
