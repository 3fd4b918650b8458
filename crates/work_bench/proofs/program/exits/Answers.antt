use Rattle.work_bench.proofs.EndLaws.{ends_by}
use Rattle.work_bench.proofs.program.exits.Goals as goal

pub returns-clause-ends : goal.returns-clause-ends
returns-clause-ends g c =
    ends_by g.S.Source.left g.S.Source.faults _ _ _ _ c.args.words.now g.K.Sink.held g.K.Sink.faults _ _ _ c.bench-status.result _ c.bench-status.ensures c.ending.ensures
