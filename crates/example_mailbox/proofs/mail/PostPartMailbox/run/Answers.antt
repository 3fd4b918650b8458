use Rattle.std.proofs.Common.{arith}
use Rattle.tx_parts.specs.ToldLaws.{under-rule, call-keeps, call-tells}
use Rattle.example_mailbox.specs.Mail.{Posts}
use Rattle.example_mailbox.proofs.MailLaws.{put-does}
use Rattle.example_mailbox.proofs.mail.PostPartMailbox.run.Goals as goal

pub put-requires-clause-well : goal.put-requires-clause-well
put-requires-clause-well g c = rw c.queue.ensures (under-rule _ _ _ (g.N.Access.log c.args.memory.now) _ c.requires.good c.requires.sound (λ m well. well c.args.self.now.urgent))

pub returns-clause-kept : goal.returns-clause-kept
returns-clause-kept g c =
    call-keeps c.requires.good c.requires.sound (rw c.queue.ensures at c.in_ok-put.ensures.reply) (Posts c.args.mailbox.now c.args.self.now.urgent c.args.self.now.message)
    (λ m well long. put-does c.args.mailbox.now _ c.requires.precondition c.args.self.now.urgent m well long c.args.self.now.message (omega arith)) _

pub returns-clause-postcondition : goal.returns-clause-postcondition
returns-clause-postcondition g c =
    rw c.done.ensures (call-tells c.requires.good c.requires.sound (rw c.queue.ensures at c.in_ok-put.ensures.reply) (Posts c.args.mailbox.now c.args.self.now.urgent c.args.self.now.message)
    (λ m well long. put-does c.args.mailbox.now _ c.requires.precondition c.args.self.now.urgent m well long c.args.self.now.message (omega arith)))
