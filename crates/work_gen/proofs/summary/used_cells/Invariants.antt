use Rattle.std.proofs.Common.{◌≡◌, ◌≤◌}
use Rattle.data_effects.specs.Keys.{how_many}
use Rattle.work_gen.specs.Summaries.{is_used}
use Rattle.work_gen.proofs.summary.used_cells.Given as goal

abbrev pub invariant-loop-i : goal.invariant-loop-i
invariant-loop-i l = record {
  counted : l.used ≡ how_many (is_used l.memory) l.i;
  small : l.used ≤ l.i;
}
