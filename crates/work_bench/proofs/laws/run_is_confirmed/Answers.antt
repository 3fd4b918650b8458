use Rattle.work_bench.proofs.ConfirmedLaws.{run-confirmed}
use Rattle.work_bench.proofs.laws.run_is_confirmed.Goals as goal

pub returns : goal.returns
returns c = run-confirmed c.after_is_confirmed.ensures
