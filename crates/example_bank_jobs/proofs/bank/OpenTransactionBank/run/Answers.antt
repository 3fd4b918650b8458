use Rattle.tx_transaction.specs.RangeLaws.{sum_steps}
use Rattle.tx_transaction.specs.WordLaws.{does-write, keeps-written}
use Rattle.example_bank_jobs.proofs.bank.OpenTransactionBank.run.Goals as goal

pub returns-clause-postcondition : goal.returns-clause-postcondition
returns-clause-postcondition g c =
    does-write c.requires.good c.requires.fresh c.in_ok-paid.ensures.found c.in_ok-write_words.ensures.wrote
    (λ m s ex. let none = c.if-paid-ne0.false in grind (sum_steps, ex.0))

pub returns-clause-kept : goal.returns-clause-kept
returns-clause-kept g c =
    keeps-written c.requires.good c.requires.fresh c.in_ok-paid.ensures.found c.in_ok-write_words.ensures.wrote
    (λ m s small ex. let none = c.if-paid-ne0.false in let long = s.1 in let words = c.requires.precondition in grind sum_steps)
