use Rattle.std.proofs.Common.{◌≡◌, ◌<◌, None, take}
use Rattle.stm_model.specs.Logs.{SameMemories, IsExplained}
use Rattle.tx_transaction.specs.Words.{AllWritten}
use Rattle.tx_transaction.proofs.words.write_words.Given as goal

abbrev pub invariant-loop-a : goal.invariant-loop-a
invariant-loop-a g l = record {
  going : g.A.Access.stopped l.memory ≡ None;
  words : g.A.Access.words l.memory ≡ g.A.Access.words l.fn.memory;
  good : SameMemories (g.A.Access.good l.fn.memory) (g.A.Access.good l.memory);
  keeps : g.A.Access.keeps l.fn.memory l.memory;
  explained : 0 < l.a-index → IsExplained (g.A.Access.good l.memory) (g.A.Access.words l.memory) (g.A.Access.log l.memory);
  wrote : AllWritten (g.A.Access.log l.fn.memory) (take l.a-index l.a-items) (g.A.Access.log l.memory);
}
