use Rattle.std.proofs.Common.{sym, ◌∙◌}
use Rattle.work_driver.proofs.gathering.OwnRows.move_last.Goals as goal

pub returns-clause-moves : goal.returns-clause-moves
returns-clause-moves c = record {
  row = c.in-Some.row;
  gone = sym c.self.view_is ∙ c.in-Some.ensures.items;
  come = c.push_reserved.ensures.items;
}
