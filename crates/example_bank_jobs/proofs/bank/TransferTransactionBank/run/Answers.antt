use Rattle.std.proofs.Common.{ℕ, ◌≡◌, ◌≢◌, ◌<◌, ◌+◌, ◌∙◌, List, [], ◌∷◌, length, get_or, arith}
use Rattle.stm_model.specs.Memories.{written}
use Rattle.tx_transaction.specs.RangeLaws.{sum-moves, sum_steps}
use Rattle.tx_transaction.specs.WordLaws.{known, does-write, keeps-written}
use Rattle.example_bank_jobs.specs.Banks.{IsBalanced}
use Rattle.example_bank_jobs.proofs.bank.TransferTransactionBank.run.Goals as goal

moved-keeps : (m : List ℕ) (a b v w : ℕ) → a < 8 → b < 8 → a ≢ b → length m ≡ 9 → v + w ≡ get_or m a 0 + get_or m b 0
    → IsBalanced m → IsBalanced (written m ((a, v) ∷ (b, w) ∷ []))
moved-keeps m a b v w low high apart long same was =
    let moves = sum-moves m 8 a b v w low high apart (omega arith) same in
    grind sum_steps

pub overflow_add-payee : goal.overflow_add-payee
overflow_add-payee g c =
    known c.requires.good c.requires.fresh c.in_ok-payer.ensures.found
    (λ m s small ex. let enough = c.if-payer-self.false in grind (sum_steps, ex.0, ex.1.0, s, c.requires.precondition))

pub returns-clause-postcondition : goal.returns-clause-postcondition
returns-clause-postcondition g c =
    does-write c.requires.good c.requires.fresh c.in_ok-payer.ensures.found c.in_ok-write_words.ensures.wrote
    (λ m s ex. let enough = c.if-payer-self.false in grind (sum_steps, ex.0, ex.1.0))

pub returns-clause-kept : goal.returns-clause-kept
returns-clause-kept g c =
    keeps-written c.requires.good c.requires.fresh c.in_ok-payer.ensures.found c.in_ok-write_words.ensures.wrote
    (λ m s small ex.
    let enough = c.if-payer-self.false in
    let fits = c.requires.precondition in
    moved-keeps m _ _ _ _ fits.1 fits.2 fits.3 (s.1 ∙ fits.0) (omega (arith, ex.0, ex.1.0)) s.0)
