use Rattle.work_worker.proofs.TurnLaws.{ends-with}
use Rattle.work_worker.proofs.worker.Worker.end.Goals as goal

pub returns : goal.returns
returns g c = record { ends = ends-with c.args.kind c.args.place c.args.self.now c.write_row.new.self c.adapt.new.self c.outcome_of.result c.outcome_of.ensures c.write_row.ensures.wrote c.adapt.ensures }
