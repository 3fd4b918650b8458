use Rattle.draw_core.proofs.Fitting.{step-is-drawn}
use Rattle.draw_core.proofs.laws.step_is_drawn.Goals as goal

pub returns : goal.returns
returns c = step-is-drawn c.report_is_read.ensures
