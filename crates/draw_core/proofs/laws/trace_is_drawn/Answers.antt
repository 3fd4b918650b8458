use Rattle.draw_core.proofs.Tracing.{trace-is-drawn}
use Rattle.draw_core.proofs.laws.trace_is_drawn.Goals as goal

pub returns : goal.returns
returns c = trace-is-drawn c.report_is_read.ensures
