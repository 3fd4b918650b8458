use Rattle.std.proofs.Common.{◌≡◌, None}
use Rattle.stm_model.specs.Logs.{SameMemories}
use Rattle.test_callers.proofs.growth_tests.read_all.Given as goal

abbrev pub invariant-loop-at : goal.invariant-loop-at
invariant-loop-at g l = record {
  going : g.A.Access.stopped l.memory ≡ None;
  words : g.A.Access.words l.memory ≡ g.A.Access.words l.fn.memory;
  good : SameMemories (g.A.Access.good l.fn.memory) (g.A.Access.good l.memory);
  keeps : g.A.Access.keeps l.fn.memory l.memory;
}
