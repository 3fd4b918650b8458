use Rattle.tx_parts.specs.ToldLaws.{under-rule, call-keeps, call-tells}
use Rattle.example_mailbox.specs.Mail.{Takes}
use Rattle.example_mailbox.proofs.MailLaws.{get-does}
use Rattle.example_mailbox.proofs.mail.TakePartMailbox.run.Goals as goal

pub get-requires-clause-well : goal.get-requires-clause-well
get-requires-clause-well g c = rw c.queue.ensures (under-rule _ _ _ (g.N.Access.log c.args.memory.now) _ c.requires.good c.requires.sound (λ m well. well c.args.self.now.urgent))

pub returns-clause-kept : goal.returns-clause-kept
returns-clause-kept g c =
    call-keeps c.requires.good c.requires.sound (rw c.queue.ensures at c.in_ok-message.ensures.reply) (Takes c.args.mailbox.now c.args.self.now.urgent)
    (get-does c.args.mailbox.now _ c.requires.precondition c.args.self.now.urgent) _

pub returns-clause-postcondition : goal.returns-clause-postcondition
returns-clause-postcondition g c =
    call-tells c.requires.good c.requires.sound (rw c.queue.ensures at c.in_ok-message.ensures.reply) (Takes c.args.mailbox.now c.args.self.now.urgent)
    (get-does c.args.mailbox.now _ c.requires.precondition c.args.self.now.urgent)
