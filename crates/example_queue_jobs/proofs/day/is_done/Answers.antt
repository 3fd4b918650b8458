use Rattle.std.proofs.Common.{arith}
use Rattle.example_queue_jobs.proofs.DayLaws.{taken-once, taken-sum}
use Rattle.example_queue_jobs.proofs.day.is_done.Goals as goal

pub returns-clause-once : goal.returns-clause-once
returns-clause-once g c = λ done job.
    let inv = c.loop-i.invariant done in
    let end = c.loop-i-test.false in
    taken-once c.args.plan.now c.args.day.now c.requires.whole c.requires.day.0 c.requires.plan c.requires.day.1 inv.0 (λ i a lt. inv.1 i a (omega (arith, lt, end))) job

pub returns-clause-sum : goal.returns-clause-sum
returns-clause-sum g c = λ done.
    let inv = c.loop-i.invariant done in
    let end = c.loop-i-test.false in
    taken-sum c.args.plan.now c.args.day.now c.requires.whole c.requires.day.0 c.requires.plan c.requires.day.1 inv.0 (λ i a lt. inv.1 i a (omega (arith, lt, end)))
