-- Steps are counted one by one.
use Rattle.std.proofs.Common.{ℕ, Bool, false, ◌≡◌, arith, subst, sym}
use Rattle.rule_base.specs.declared.views.View.{View}
use Rattle.stm_gate.specs.Leaving.{left, left_by}
use Rattle.stm_rule.specs.Counting.{TakesAtMost}

-- the end of an attempt that doesn't hold the gate takes one step
pub takes-left : (n : ℕ) (v : View) → v.gate.holds ≡ false → TakesAtMost 1 v (left n v)
takes-left n v free = subst (λ (b : Bool). TakesAtMost 1 v (left_by n b v)) (sym free) (omega arith)
