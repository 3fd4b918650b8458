use Rattle.std.proofs.Common.{arith}
use Rattle.tx_transaction.specs.WordLaws.{does-read, known}
use Rattle.example_bank_jobs.proofs.bank.AuditTransactionBank.run.Goals as goal

pub returns-clause-postcondition : goal.returns-clause-postcondition
returns-clause-postcondition g c =
    let found = c.in_ok-sum.ensures.found in (
      does-read c.requires.good c.requires.fresh found (λ m s is. grind (arith, is, s.0.0, s.0.1)),
      known c.requires.good c.requires.fresh found (λ m s small is. grind (arith, is, s.0.0, s.0.1)),
    )
