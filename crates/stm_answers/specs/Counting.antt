-- How many steps were taken, as a caller knows its own: each adds one item to the step trace.
use Rattle.std.specs.Prelude.{ℕ, ◌+◌, ◌≤◌, length}
use Rattle.stm_answers.specs.CallerState.{CallerState}

-- from v to w at most k
abbrev pub AddsAtMost : ℕ → CallerState → CallerState → Type 0
AddsAtMost k v w = length w.step_trace ≤ length v.step_trace + k
