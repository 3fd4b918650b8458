use Rattle.std.proofs.Common.{refl}
use Rattle.work_cli.proofs.laws.limits_are.Goals as goal

pub returns : goal.returns
returns c = record { transactions = refl; callers = refl }
