use Rattle.std.proofs.Common.{◌∙◌, sym}
use Rattle.work_trace.proofs.AskingLaws.{asks-other}
use Rattle.work_worker.proofs.worker.Worker.asked.Goals as goal

pub returns : goal.returns
returns g c = let u = c.args.self.now in c.other_than.ensures ∙ sym (asks-other u.policy u.profile u.alg c.choose.result c.choose.ensures)
