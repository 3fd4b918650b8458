use Rattle.std.proofs.Common.{[]}
use Rattle.perf_core.proofs.program.program.Goals as goal

pub returns-in-Err : goal.returns-in-Err
returns-in-Err g c = ([], c.refused.ensures [])
