use Rattle.stm_logs.proofs.ItemLemmas.{none-take}
use Rattle.stm_logs.proofs.index.take_all.Goals as goal

pub take-requires-clause-new : goal.take-requires-clause-new
take-requires-clause-new c = none-take c.args.items.now c.loop-i.i c.requires.once c.loop-i-test.true
