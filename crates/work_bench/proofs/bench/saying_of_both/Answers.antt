use Rattle.work_bench.proofs.Sayings.{both-says}
use Rattle.work_bench.proofs.bench.saying_of_both.Goals as goal

pub returns-in-Ok-read_all-clause-says : goal.returns-in-Ok-read_all-clause-says
returns-in-Ok-read_all-clause-says g c =
    let first = c.in-Ok.ensures in
    let second = c.in-Ok-read_all.ensures in
    both-says g.S.Source.left g.S.Source.faults c.args.source.now _ c.args.report.now _ c.in-Ok.text.items c.in-Ok-read_all.told.items first.text first.within first.taken first.calm second.text second.within second.taken second.calm c.judge_apart.result _ _ c.as_slice.ensures.value c.as_slice-in-Ok-read_all.ensures.value c.judge_apart.ensures.said c.judge_apart.ensures.closed
