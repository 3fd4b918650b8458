use Rattle.std.proofs.Common.{◌≡◌, ◌-◌, None}
use Rattle.stm_model.specs.Logs.{SameMemories, IsExplained}
use Rattle.data_effects.specs.Effects.{Shows}
use Rattle.data_effects.specs.Keys.{free_from}
use Rattle.data_effects.specs.Tags.{tag}
use Rattle.data_effects.proofs.cells.Cells.free_cell.Given as goal

abbrev pub invariant-loop-cell : goal.invariant-loop-cell
invariant-loop-cell g l = record {
  going : g.A.Access.stopped l.acc ≡ None;
  words : g.A.Access.words l.acc ≡ g.A.Access.words l.fn.acc;
  good : SameMemories (g.A.Access.good l.fn.acc) (g.A.Access.good l.acc);
  keeps : g.A.Access.keeps l.fn.acc l.acc;
  writes : (g.A.Access.log l.acc).writes ≡ (g.A.Access.log l.fn.acc).writes;
  explained : IsExplained (g.A.Access.good l.acc) (g.A.Access.words l.acc) (g.A.Access.log l.acc);
  shows : Shows (g.A.Access.good l.fn.acc) (g.A.Access.words l.fn.acc) (g.A.Access.log l.fn.acc) (g.A.Access.log l.acc) (λ m. free_from (tag l.self m) 0 l.self.count ≡ free_from (tag l.self m) l.cell (l.self.count - l.cell));
}
