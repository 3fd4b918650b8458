use Rattle.std.proofs.Common.{◌≡◌, ◌<◌, ◌≤◌, ◌-◌, None}
use Rattle.stm_model.specs.Logs.{SameMemories, IsExplained}
use Rattle.data_effects.specs.Effects.{Shows}
use Rattle.data_tree.proofs.Walking.{Walked}
use Rattle.data_tree.proofs.pool.Pool.find.Given as goal

abbrev pub invariant-loop-step : goal.invariant-loop-step
invariant-loop-step g l = record {
  going : g.A.Access.stopped l.acc ≡ None;
  words : g.A.Access.words l.acc ≡ g.A.Access.words l.fn.acc;
  good : SameMemories (g.A.Access.good l.fn.acc) (g.A.Access.good l.acc);
  keeps : g.A.Access.keeps l.fn.acc l.acc;
  writes : (g.A.Access.log l.acc).writes ≡ (g.A.Access.log l.fn.acc).writes;
  explained : IsExplained (g.A.Access.good l.acc) (g.A.Access.words l.acc) (g.A.Access.log l.acc);
  inside : l.link < g.A.Access.words l.fn.acc;
  below : l.next ≤ l.self.cells;
  shows : Shows (g.A.Access.good l.fn.acc) (g.A.Access.words l.fn.acc) (g.A.Access.log l.fn.acc) (g.A.Access.log l.acc) (Walked l.self l.key l.link l.next (l.self.cells - l._step));
}
