use Rattle.test_check.proofs.verdict_tests.verdict.Goals as goal

pub replay-requires : goal.replay-requires
replay-requires c = record { items = c.parsed_workloads_fit.ensures _ _ c.in_ok-workload.ensures.is_parsed }
