use Rattle.std.proofs.Common.{refl}
use Rattle.work_profile.proofs.laws.limits_are.Goals as goal

pub returns : goal.returns
returns c = record { window = refl; since = refl; round = refl; state = refl }
