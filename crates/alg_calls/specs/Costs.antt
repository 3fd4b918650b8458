-- What the calls of an attempt cost: at most so many steps, each of which adds one item to the step trace.
use Rattle.std.specs.Prelude.{ℕ, ◌+◌, ◌-◌, ◌*◌}
use Rattle.stm_model.specs.declared.alg.Alg.{Alg}
use Rattle.stm_model.specs.declared.alg.Alg.TheVariants.{Cgl, Tml, OrecLazy, OrecEager, RingSw, Serial}
use Rattle.stm_model.specs.declared.config.Config.{Config}
use Rattle.stm_answers.specs.CallerState.{CallerState}

pub record Costs : Type 0 where
  pub read : ℕ
  pub write : ℕ
  pub commit : ℕ
  pub cancel : ℕ
  -- of `try_irrevocable`
  pub irrevocable : ℕ

-- THE TABLE, for a read log of r items, logs of x items of what is written, a ring of n slots and t callers
abbrev pub steps_of : Alg → ℕ → ℕ → ℕ → ℕ → Costs
steps_of Cgl r x n t = record { read = 1; write = 1; commit = 3; cancel = 0; irrevocable = 0 }
steps_of Serial r x n t = record { read = 1; write = 4 + x; commit = 3; cancel = 2 + x; irrevocable = 3 + x }
steps_of Tml r x n t = record { read = 4; write = 4; commit = 5; cancel = 2; irrevocable = 5 + t }
steps_of OrecLazy r x n t = record { read = 6 + r; write = 2; commit = 5 + r + 4 * x; cancel = 2 + x; irrevocable = 6 + t + r + x }
steps_of OrecEager r x n t = record { read = 7 + r + 2 * x; write = 7 + r + 2 * x; commit = 5 + r + 2 * x; cancel = 3 + 2 * x; irrevocable = 7 + t + r + 2 * x }
steps_of RingSw r x n t = record { read = 6 + 16 * (n - 1); write = 2; commit = 10 + x + 16 * n; cancel = 2; irrevocable = 8 + t + x + 16 * (n - 1) }

-- of its begin, at the gate apart
abbrev pub begin_steps : Alg → ℕ
begin_steps Cgl = 3
begin_steps Tml = 1
begin_steps OrecLazy = 1
begin_steps OrecEager = 1
begin_steps RingSw = 1
begin_steps Serial = 2

-- of a roll back to a mark, for logs of x items of what is written
abbrev pub roll_steps : Alg → ℕ → ℕ
roll_steps Cgl x = x
roll_steps Tml x = x
roll_steps OrecLazy x = 0
roll_steps OrecEager x = x
roll_steps RingSw x = 0
roll_steps Serial x = x

-- what the calls of a caller's attempt cost under an algorithm
abbrev pub costs_under : Alg → Config → CallerState → Costs
costs_under a c v = steps_of a v.reads_limit v.writes_limit c.ring c.callers
