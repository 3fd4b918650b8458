use Rattle.std.proofs.Common.{refl}
use Rattle.tx_jobs.specs.Jobs.{in-order, conserved}
use Rattle.example_mailbox.specs.Mail.{IsMailbox, mail_in, Moves, waiting, posts, receives}
use Rattle.example_mailbox.proofs.MailLaws.{posts-it, receives-it, changes, weighs}
use Rattle.example_mailbox.proofs.laws.messages_come_in_order.Goals as goal

pub returns-clause-post : goal.returns-clause-post
returns-clause-post c = posts-it

pub returns-clause-receive : goal.returns-clause-receive
returns-clause-receive c = receives-it

pub returns-clause-moves : goal.returns-clause-moves
returns-clause-moves c = changes

pub returns-clause-order : goal.returns-clause-order
returns-clause-order c = λ mailbox opening floor history own legal are. in-order (IsMailbox mailbox) _ (mail_in mailbox) Moves opening floor history own refl legal are

pub returns-clause-once : goal.returns-clause-once
returns-clause-once c = λ message. conserved Moves (waiting message) (posts message) (receives message) (weighs message)
