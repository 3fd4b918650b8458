-- Steps are counted one by one.
use Rattle.std.proofs.Common.{ℕ, ◌+◌, Bool, true, false, arith}
use Rattle.rule_base.specs.declared.views.View.{View}
use Rattle.stm_gate.specs.Leaving.{left, left_by}
use Rattle.stm_rule.specs.Counting.{TakesAtMost}

pub takes-trans : (j k : ℕ) (u v w : View) → TakesAtMost j u v → TakesAtMost k v w → TakesAtMost (j + k) u w
takes-trans j k u v w h g = omega arith

-- the end of an attempt takes two steps at most
left-by : (n : ℕ) (held : Bool) (v : View) → TakesAtMost 2 v (left_by n held v)
left-by n true v = omega arith
left-by n false v = omega arith

pub takes-left : (n : ℕ) (v : View) → TakesAtMost 2 v (left n v)
takes-left n v = left-by n v.gate.holds v
