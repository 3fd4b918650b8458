-- The table of what calls cost, in the terms of what a caller knows.
use Rattle.std.specs.Prelude.{ℕ, ◌+◌, ◌*◌, ◌≤◌}
use Rattle.stm_model.specs.declared.alg.Alg.{Alg}
use Rattle.stm_model.specs.declared.config.Config.{Config}
use Rattle.stm_answers.specs.CallerState.{CallerState}
use Rattle.alg_calls.specs.Costs.{Costs, steps_of, costs_under}

-- the same under whichever algorithm
abbrev pub steps_of_any : ℕ → ℕ → ℕ → ℕ → Costs
steps_of_any r x n t = record { read = 8 + r + 2 * x + 16 * n; write = 8 + r + 2 * x + 16 * n; commit = 10 + r + 4 * x + 16 * n; cancel = 4 + 2 * x; irrevocable = 8 + t + r + 2 * x + 16 * n }

-- what the calls of a caller's attempt cost
abbrev pub costs : Config → CallerState → Costs
costs c v = costs_under v.alg c v

abbrev pub IsWithin : Costs → Costs → Type 0
IsWithin c d = (c.read ≤ d.read) × (c.write ≤ d.write) × (c.commit ≤ d.commit) × (c.cancel ≤ d.cancel) × (c.irrevocable ≤ d.irrevocable)

abbrev pub AreBounded : Type 0
AreBounded = (a : Alg) (r x n t : ℕ) → IsWithin (steps_of a r x n t) (steps_of_any r x n t)
