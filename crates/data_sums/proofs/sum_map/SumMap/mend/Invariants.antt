use Rattle.std.proofs.Common.{◌≡◌, ◌≤◌, ◌-◌, None}
use Rattle.stm_model.specs.Logs.{SameMemories, IsExplained}
use Rattle.data_sums.proofs.SumWalks.{Walks, Mending, Wrote}
use Rattle.data_sums.proofs.sum_map.SumMap.mend.Given as goal

abbrev pub invariant-loop-step : goal.invariant-loop-step
invariant-loop-step g l = record {
  going : g.A.Access.stopped l.acc ≡ None;
  words : g.A.Access.words l.acc ≡ g.A.Access.words l.fn.acc;
  good : SameMemories (g.A.Access.good l.fn.acc) (g.A.Access.good l.acc);
  keeps : g.A.Access.keeps l.fn.acc l.acc;
  explained : IsExplained (g.A.Access.good l.acc) (g.A.Access.words l.acc) (g.A.Access.log l.acc);
  below : l.link ≤ l.self.cells;
  wrote : Wrote l._step (g.A.Access.log l.fn.acc) (g.A.Access.log l.acc) l.wrote l.link;
  walks : Walks (g.A.Access.good l.fn.acc) (g.A.Access.words l.fn.acc) (g.A.Access.log l.fn.acc) (g.A.Access.log l.acc) (Mending l.self l.from l.key l.by l.link (l.self.cells - l._step) l.wrote);
}
