use Rattle.std.proofs.Common.{◌≡◌, ◌<◌, None, length, take}
use Rattle.stm_model.specs.Logs.{SameMemories, IsExplained}
use Rattle.tx_transaction.specs.Words.{AllRead, valued}
use Rattle.tx_transaction.proofs.words.read_words.Given as goal

abbrev pub invariant-loop-i : goal.invariant-loop-i
invariant-loop-i g l = record {
  going : g.A.Access.stopped l.memory ≡ None;
  words : g.A.Access.words l.memory ≡ g.A.Access.words l.fn.memory;
  good : SameMemories (g.A.Access.good l.fn.memory) (g.A.Access.good l.memory);
  keeps : g.A.Access.keeps l.fn.memory l.memory;
  explained : 0 < l.i → IsExplained (g.A.Access.good l.memory) (g.A.Access.words l.memory) (g.A.Access.log l.memory);
  long : length l.found ≡ length l.fn.at;
  read : AllRead (g.A.Access.words l.fn.memory) (g.A.Access.log l.fn.memory) (valued 0 (take l.i l.fn.at) l.found) (g.A.Access.log l.memory);
}
