use Rattle.std.proofs.Common.{◌≡◌, ◌<◌, ◌%◌, ◌^◌, sum, None}
use Rattle.stm_model.specs.Logs.{SameMemories, IsExplained}
use Rattle.tx_transaction.specs.Words.{RangeRead}
use Rattle.tx_transaction.proofs.words.read_sum.Given as goal

abbrev pub invariant-loop-a : goal.invariant-loop-a
invariant-loop-a g l = record {
  going : g.A.Access.stopped l.memory ≡ None;
  words : g.A.Access.words l.memory ≡ g.A.Access.words l.fn.memory;
  good : SameMemories (g.A.Access.good l.fn.memory) (g.A.Access.good l.memory);
  keeps : g.A.Access.keeps l.fn.memory l.memory;
  explained : l.fn.range.start < l.a → IsExplained (g.A.Access.good l.memory) (g.A.Access.words l.memory) (g.A.Access.log l.memory);
  read : RangeRead (g.A.Access.words l.fn.memory) (g.A.Access.log l.fn.memory) l.fn.range.start l.a (λ vs. l.sum ≡ sum vs % 2 ^ 64) (g.A.Access.log l.memory);
}
