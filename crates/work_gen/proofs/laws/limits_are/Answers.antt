use Rattle.std.proofs.Common.{refl}
use Rattle.work_gen.proofs.laws.limits_are.Goals as goal

pub returns : goal.returns
returns c = record { transactions = refl; accounts = refl; deposit = refl; moved = refl; stripes = refl; keys = refl; switches = refl }
