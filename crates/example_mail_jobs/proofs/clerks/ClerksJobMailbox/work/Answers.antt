use Rattle.std.proofs.Common.{◌*◌}
use Rattle.tx_jobs.specs.Jobs.{gathered-did, gathered-range}
use Rattle.example_mail_jobs.specs.Days.{deed_of}
use Rattle.example_mail_jobs.proofs.clerks.ClerksJobMailbox.work.Goals as goal

pub returns-in-Ok-clause-postcondition : goal.returns-in-Ok-clause-postcondition
returns-in-Ok-clause-postcondition g c =
    let n = (g.C.Calls.seat c.args.caller.now).number in
    let gathered = c.in-Ok.ensures.gathered in
    (gathered-did (deed_of n) (λ k answer v w told. told.0) gathered, (c.in-Ok.ensures.count, λ low. gathered-range (n * 300) (λ k message v w told. told.1 low) gathered))
