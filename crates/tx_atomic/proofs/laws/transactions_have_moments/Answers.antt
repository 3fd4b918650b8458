use Rattle.tx_atomic.specs.MomentLaws.{happened}
use Rattle.tx_atomic.proofs.laws.transactions_have_moments.Goals as goal

pub returns : goal.returns
returns g c =
    λ config n came u w k history took grows begun.
    happened (g.K.MemRule.good c.args.rule.now) config n
    (λ log. g.T.Transaction.postcondition c.args.transaction.now c.args.rule.now config.words came log) u w history k took grows begun
