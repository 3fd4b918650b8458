use Rattle.std.proofs.Common.{◌%◌}
use Rattle.std.specs.Prelude.{◌==◌}
use Rattle.example_mailbox.specs.Mail.{mail_in, Moves, Posted}
use Rattle.example_mailbox.proofs.MailLaws.{changes, posts-it}
use Rattle.tx_jobs.specs.Jobs.{did}
use Rattle.example_mail_jobs.proofs.clerks.post.Goals as goal

pub returns-in-Some-Ok-clause-posted : goal.returns-in-Some-Ok-clause-posted
returns-in-Some-Ok-clause-posted g c =
    let s = g.C.Calls.seat c.args.caller.now in
    let x = c.args.message in
    did (mail_in s.rule) Moves (Posted (x % 3 == 0) x) (changes (Posted (x % 3 == 0) x)) (posts-it s.rule s.words 0 8 (x % 3 == 0) x) (rw c.in-Some-Ok.field-0-is at c.in-Some-Ok.ensures.took)
