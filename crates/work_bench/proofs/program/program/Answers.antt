use Rattle.std.proofs.Common.{[]}
use Rattle.work_bench.proofs.program.program.Goals as goal

pub returns-in-Err : goal.returns-in-Err
returns-in-Err g c = ([], c.refused.ensures [])
