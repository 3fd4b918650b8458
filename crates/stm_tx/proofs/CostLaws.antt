-- The table of costs, line by line.
use Rattle.std.proofs.Common.{ℕ, arith}
use Rattle.stm_model.specs.declared.alg.Alg.{Alg}
use Rattle.stm_model.specs.declared.alg.Alg.TheVariants.{Cgl, Tml, OrecLazy, OrecEager, RingSw, Serial}
use Rattle.alg_calls.specs.Costs.{steps_of}
use Rattle.stm_tx.specs.Costs.{steps_of_any, IsWithin}

pub within : (a : Alg) (r x n t : ℕ) → IsWithin (steps_of a r x n t) (steps_of_any r x n t)
within Cgl r x n t = (omega arith, omega arith, omega arith, omega arith, omega arith)
within Serial r x n t = (omega arith, omega arith, omega arith, omega arith, omega arith)
within Tml r x n t = (omega arith, omega arith, omega arith, omega arith, omega arith)
within OrecLazy r x n t = (omega arith, omega arith, omega arith, omega arith, omega arith)
within OrecEager r x n t = (omega arith, omega arith, omega arith, omega arith, omega arith)
within RingSw r x n t = (omega arith, omega arith, omega arith, omega arith, omega arith)
