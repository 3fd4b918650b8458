use Rattle.draw_core.proofs.WalkLaws.{first-walk-of}
use Rattle.draw_core.proofs.walk.Walk.new.Goals as goal

pub returns-clause-is : goal.returns-clause-is
returns-clause-is c = first-walk-of _ c.callers_in.result c.in_ok-new.ensures.is c.in_ok-first_phases.ensures c.callers_in.ensures c.in_ok-first_cursors.ensures.is c.in_ok-first_cursors.ensures.within
