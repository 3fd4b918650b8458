use Rattle.std.proofs.Common.{◌≡◌, ◌<◌, ◌%◌, ◌^◌, None}
use Rattle.stm_model.specs.Logs.{SameMemories, IsExplained}
use Rattle.data_effects.specs.Effects.{Shows}
use Rattle.data_cells.specs.Counters.{sum_from}
use Rattle.data_cells.proofs.counter.Counter.total.Given as goal

abbrev pub invariant-loop-stripe : goal.invariant-loop-stripe
invariant-loop-stripe g l = record {
  going : g.A.Access.stopped l.acc ≡ None;
  words : g.A.Access.words l.acc ≡ g.A.Access.words l.fn.acc;
  good : SameMemories (g.A.Access.good l.fn.acc) (g.A.Access.good l.acc);
  keeps : g.A.Access.keeps l.fn.acc l.acc;
  writes : (g.A.Access.log l.acc).writes ≡ (g.A.Access.log l.fn.acc).writes;
  explained : 0 < l.stripe → IsExplained (g.A.Access.good l.acc) (g.A.Access.words l.acc) (g.A.Access.log l.acc);
  shows : Shows (g.A.Access.good l.fn.acc) (g.A.Access.words l.fn.acc) (g.A.Access.log l.fn.acc) (g.A.Access.log l.acc) (λ m. l.total ≡ sum_from m l.self.at l.stripe % 2 ^ 64);
}
