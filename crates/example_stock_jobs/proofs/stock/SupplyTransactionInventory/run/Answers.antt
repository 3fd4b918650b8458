use Rattle.std.proofs.Common.{refl, arith}
use Rattle.std.proofs.lemmas.Grind.{elements}
use Rattle.data_effects.specs.FreshLaws.{keeps-by}
use Rattle.tx_transaction.specs.WordLaws.{does-write}
use Rattle.example_stock_jobs.proofs.stock.SupplyTransactionInventory.run.Goals as goal

pub returns-clause-postcondition : goal.returns-clause-postcondition
returns-clause-postcondition g c =
    does-write c.requires.good c.requires.fresh c.in_ok-supplied.ensures.found c.in_ok-write_words.ensures.wrote
    (λ m s ex. rw (ex.0, ex.1.0, c.min-amount.ensures) refl)

pub returns-clause-kept : goal.returns-clause-kept
returns-clause-kept g c =
    keeps-by _ _ _ _ _ (returns-clause-postcondition g c) (λ m s small item at.
    let long = s.1 in let precondition = c.requires.precondition in
    let was = s.0 item at in grind (arith, elements))
