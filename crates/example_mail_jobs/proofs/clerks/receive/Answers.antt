use Rattle.example_mailbox.specs.Mail.{mail_in, Moves, Received}
use Rattle.example_mailbox.proofs.MailLaws.{changes, receives-it}
use Rattle.tx_jobs.specs.Jobs.{did}
use Rattle.example_mail_jobs.proofs.clerks.receive.Goals as goal

pub returns-in-Some-Ok-clause-received : goal.returns-in-Some-Ok-clause-received
returns-in-Some-Ok-clause-received g c =
    let s = g.C.Calls.seat c.args.caller.now in
    let deed = Received c.in-Some-Ok.message in
    did (mail_in s.rule) Moves deed (changes deed) (receives-it s.rule s.words 0 8 c.in-Some-Ok.message) (rw c.in-Some-Ok.field-0-is at c.in-Some-Ok.ensures.took)
