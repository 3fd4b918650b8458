use Rattle.work_script.proofs.OperationLaws.{write-does}
use Rattle.work_script.proofs.operation.write.Goals as goal

pub returns-clause-reply : goal.returns-clause-reply
returns-clause-reply g c = λ m good len h. write-does m _ c.args.a c.args.v _ c.in_ok-write.ensures.value h
