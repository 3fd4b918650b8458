use Rattle.test_interface.proofs.eager_tests.reads_around_a_cancelled_write.Goals as goal

pub confirm-requires-clause-loaded : goal.confirm-requires-clause-loaded
confirm-requires-clause-loaded g c =
    let sampled = rw c.in-Ok-Some.field-0-is at c.in-Ok-Some.ensures.samples in
    c.load-x.ensures.loads c.in-Ok-Some.word sampled.1
