use Rattle.work_check.proofs.ConfirmedLaws.{replayed-readable}
use Rattle.work_check.proofs.laws.replayed_is_readable.Goals as goal

pub returns : goal.returns
returns c = replayed-readable
