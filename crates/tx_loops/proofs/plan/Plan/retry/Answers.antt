use Rattle.tx_loops.proofs.WatchLaws.{there}
use Rattle.tx_loops.proofs.plan.Plan.retry.Goals as goal

pub returns-then-watches-clause-sleeps : goal.returns-then-watches-clause-sleeps
returns-then-watches-clause-sleeps c = let t = there c.args.self.now.watch (c.watches.ensures c.if-watches.true) in (c.if-ran.true, t.0, t.1, t.2)
