use Rattle.std.proofs.Common.{ℕ, ◌≡◌, ◌<◌, ◌≤◌, ◌+◌, ◌∙◌, List, length, get_or, refl, arith}
use Rattle.std.proofs.lemmas.Bool.Decides.{nat_tests}
use Rattle.std.proofs.lemmas.Grind.{elements}
use Rattle.data_effects.specs.FreshLaws.{keeps-by}
use Rattle.tx_transaction.specs.WordLaws.{does-write}
use Rattle.example_stock_jobs.specs.declared.stock.Order.{Order}
use Rattle.example_stock_jobs.specs.Stocks.{IsStocked, filled, left_in}
use Rattle.example_stock_jobs.proofs.stock.FillTransactionInventory.run.Goals as goal

filled-within : (order : Order) (amount stock reserved : ℕ) → reserved ≤ stock
    → ((filled order amount stock reserved).1 ≤ (filled order amount stock reserved).0) × ((filled order amount stock reserved).0 ≤ stock)
filled-within order amount stock reserved fits = grind (arith, nat_tests)

left-keeps : (m : List ℕ) (item : ℕ) (left : ℕ × ℕ) → length m ≡ 64 → item < 16
    → (left.1 ≤ left.0) × (left.0 ≤ get_or m (16 + item) 0) → IsStocked m → IsStocked (left_in item left m)
left-keeps m item left long low within was = λ i at. let here = was i at in let there = was item low in grind (arith, elements)

pub returns-clause-postcondition : goal.returns-clause-postcondition
returns-clause-postcondition g c =
    does-write c.requires.good c.requires.fresh c.in_ok-supplied.ensures.found c.in_ok-write_words.ensures.wrote
    (λ m s ex. rw (ex.0, ex.1.0, ex.1.1.0, c.filled-left.ensures.is) refl)

pub returns-clause-kept : goal.returns-clause-kept
returns-clause-kept g c =
    let it = c.args.self.now in let precondition = c.requires.precondition in
    keeps-by _ _ _ _ _ (returns-clause-postcondition g c) (λ m s small.
    let within = filled-within it.order it.amount _ _ (s.0 it.item precondition.1).1 in
    left-keeps m it.item _ (s.1 ∙ precondition.0) precondition.1 within s.0)
