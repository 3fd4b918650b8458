use Rattle.tx_checked.proofs.OneHistoryLaws.{clock-shows}
use Rattle.tx_checked.proofs.closing.see_callers.Goals as goal

pub load_as-requires-clause-law : goal.load_as-requires-clause-law
load_as-requires-clause-law c = clock-shows c.args.stm.now.config c.desc.inside.number c.desc.inside.seat.me.0.view
