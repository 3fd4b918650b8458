use Rattle.std.proofs.Common.{ℕ, ◌≡◌, ◌<◌, ◌≤◌, ◌+◌, Bool, None}
use Rattle.std.specs.Prelude.{count_by}
use Rattle.stm_model.specs.Logs.{SameMemories, IsExplained}
use Rattle.tx_transaction.specs.Words.{Decides, RangeRead}
use Rattle.tx_transaction.proofs.words.read_count.Given as goal

abbrev pub invariant-loop-a : goal.invariant-loop-a
invariant-loop-a g l = record {
  going : g.A.Access.stopped l.memory ≡ None;
  words : g.A.Access.words l.memory ≡ g.A.Access.words l.fn.memory;
  good : SameMemories (g.A.Access.good l.fn.memory) (g.A.Access.good l.memory);
  keeps : g.A.Access.keeps l.fn.memory l.memory;
  explained : l.fn.range.start < l.a → IsExplained (g.A.Access.good l.memory) (g.A.Access.words l.memory) (g.A.Access.log l.memory);
  few : l.fn.range.start + l.count ≤ l.a;
  read : (passes : ℕ → Bool) → Decides (goal.F-post g l.fn.test) passes
      → RangeRead (g.A.Access.words l.fn.memory) (g.A.Access.log l.fn.memory) l.fn.range.start l.a (λ vs. l.count ≡ count_by passes vs) (g.A.Access.log l.memory);
}
