use Rattle.tx_atomic.specs.MomentLaws.{happened}
use Rattle.tx_watching.specs.Watches.{CoverReads}
use Rattle.tx_atomic.proofs.laws.sleepers_have_read.Goals as goal

pub returns : goal.returns
returns g c =
    λ config n came u w k history took grows begun.
    happened (g.K.MemRule.good c.args.rule.now) config n
    (λ log. g.T.Transaction.postcondition c.args.transaction.now c.args.rule.now config.words came log × CoverReads c.args.stripes log) u w history k took grows begun
