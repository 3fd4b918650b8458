-- How many steps were taken: each adds one item to the step trace.
use Rattle.std.specs.Prelude.{ℕ, ◌+◌, ◌≤◌, length}
use Rattle.rule_base.specs.declared.views.View.{View}

-- from v to w at most k
abbrev pub TakesAtMost : ℕ → View → View → Type 0
TakesAtMost k v w = length w.steps.step_trace ≤ length v.steps.step_trace + k
