use Rattle.std.proofs.Common.{◌≡◌, drop}
use Rattle.work_text.specs.Grammar.{op_of}
use Rattle.work_text.proofs.table.op_of.Given as goal

abbrev pub invariant-loop-op : goal.invariant-loop-op
invariant-loop-op l = op_of l.ops l.word ≡ op_of (drop l.op-index l.ops) l.word
