-- What contracts see of a descriptor as a caller, and what stays of a memory's caller.
use Rattle.std.specs.Prelude.{ℕ}
use Rattle.stm_rule.specs.Callers.{Handle}
use Rattle.stm_answers.specs.CallerState.{CallerState, known_of, caller_of}

module _ {K : Type 0} where
  -- what the caller knows
  abbrev pub known : Handle K → CallerState
  known d = known_of d.view d.own

  -- its number
  abbrev pub number : Handle K → ℕ
  number d = caller_of d.who.role
