use Rattle.std.proofs.Common.{◌∙◌}
use Rattle.nekchhaul.specs.StoryLaws.{by-came}
use Rattle.example_mailbox.proofs.MailLaws.{zeros-well}
use Rattle.example_mail_jobs.specs.declared.day.TheConstants.{MAILBOX}
use Rattle.example_mail_jobs.proofs.DayLaws.{closed-day}
use Rattle.example_mail.proofs.run.Goals as goal

pub with_memory-requires-clause-good : goal.with_memory-requires-clause-good
with_memory-requires-clause-good g c κs within = zeros-well MAILBOX _

pub returns-clause-each : goal.returns-clause-each
returns-clause-each g c = by-came c.with_memory.result c.with_memory.ensures.came (λ day came. came.each ∙ c.sizes.ensures.callers)

pub returns-clause-day : goal.returns-clause-day
returns-clause-day g c = by-came c.with_memory.result c.with_memory.ensures.came (λ day came. closed-day c.sizes.ensures.words c.sizes.ensures.callers came)
