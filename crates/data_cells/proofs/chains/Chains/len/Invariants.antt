use Rattle.std.proofs.Common.{◌≡◌, ◌≤◌, None}
use Rattle.stm_model.specs.Logs.{SameMemories, IsExplained}
use Rattle.data_effects.specs.Effects.{Shows}
use Rattle.data_cells.proofs.ChainLength.{Counted}
use Rattle.data_cells.proofs.chains.Chains.len.Given as goal

abbrev pub invariant-loop-step : goal.invariant-loop-step
invariant-loop-step g l = record {
  going : g.A.Access.stopped l.acc ≡ None;
  words : g.A.Access.words l.acc ≡ g.A.Access.words l.fn.acc;
  good : SameMemories (g.A.Access.good l.fn.acc) (g.A.Access.good l.acc);
  keeps : g.A.Access.keeps l.fn.acc l.acc;
  writes : (g.A.Access.log l.acc).writes ≡ (g.A.Access.log l.fn.acc).writes;
  explained : IsExplained (g.A.Access.good l.acc) (g.A.Access.words l.acc) (g.A.Access.log l.acc);
  below : l.next ≤ l.self.cells;
  count : l.count ≡ l._step;
  shows : Shows (g.A.Access.good l.fn.acc) (g.A.Access.words l.fn.acc) (g.A.Access.log l.fn.acc) (g.A.Access.log l.acc) (Counted l.self l.count l.next);
}
