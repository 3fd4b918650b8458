use Rattle.std.proofs.Common.{arith}
use Rattle.tx_jobs.specs.StoryLaws.{by-came}
use Rattle.tx_start.proofs.times.with_transaction.Goals as goal

pub returns-clause-whole : goal.returns-clause-whole
returns-clause-whole g c =
    by-came c.with_memory.result c.with_memory.ensures.came
    (λ closed came i d lt few. let story = came.stories i d lt in let full = story.told.2 few in let found = story.found in omega (arith, full, found))
