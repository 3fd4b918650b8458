use Rattle.std.proofs.Common.{◌≡◌, drop}
use Rattle.work_text.specs.Grammar.{kind_of}
use Rattle.work_text.proofs.table.kind_of.Given as goal

abbrev pub invariant-loop-kind : goal.invariant-loop-kind
invariant-loop-kind l = kind_of l.kinds l.word ≡ kind_of (drop l.kind-index l.kinds) l.word
