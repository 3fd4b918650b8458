use Rattle.work_bench.proofs.HeadlineLaws.{headline}
use Rattle.work_bench.proofs.laws.run_is_right.Goals as goal

pub returns : goal.returns
returns g c = headline g.S.Source.left g.S.Source.faults g.K.Sink.held g.K.Sink.faults
