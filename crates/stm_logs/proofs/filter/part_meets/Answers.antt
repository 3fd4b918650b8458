use Rattle.std.proofs.Common.{slice_index}
use Rattle.stm_logs.proofs.FilterLemmas.{part-test}
use Rattle.stm_logs.proofs.filter.part_meets.Goals as goal

pub returns : goal.returns
returns c = part-test (slice_index c.args.f.now) (slice_index c.args.g.now) c.args.part
