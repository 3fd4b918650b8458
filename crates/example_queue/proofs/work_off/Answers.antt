use Rattle.nekchhaul.specs.StoryLaws.{by-came}
use Rattle.example_queue_jobs.proofs.DayLaws.{closed-whole, closed-day}
use Rattle.example_queue.proofs.work_off.Goals as goal

pub returns-clause-whole : goal.returns-clause-whole
returns-clause-whole g c =
    let sizes = c.sizes-config.ensures in
    by-came c.with_memory.result c.with_memory.ensures.came (λ day came. closed-whole c.args.plan sizes.words sizes.callers day came)

pub returns-clause-day : goal.returns-clause-day
returns-clause-day g c =
    let sizes = c.sizes-config.ensures in
    by-came c.with_memory.result c.with_memory.ensures.came
    (λ day came. closed-day c.args.plan sizes.words sizes.callers day came c.requires.plan c.queues_are_apart.ensures.empty)
