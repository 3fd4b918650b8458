use Rattle.tx_loops.proofs.CommitLaws.{nothing-refl}
use Rattle.tx_loops.proofs.storing.store_through.Goals as goal

pub returns-then-count-eq0-clause-nothing : goal.returns-then-count-eq0-clause-nothing
returns-then-count-eq0-clause-nothing c = nothing-refl c.args.caller.now
