-- Attempts, under every algorithm: a caller that has a part in an algorithm by a flag of its view is in its attempt by
-- its phase. So at rest the clauses of an algorithm speak of nobody, and an install may put others in their place.
-- Without `busy` a flag that outlasts its attempt would make them speak of a caller outside. Without `entered` BASE and
-- DONE could miss a time that the gate's holder gave the clock.
use Rattle.std.specs.Prelude.{ℕ, ◌≡◌, Bool, true, if◌then◌else◌}
use Rattle.rule_base.specs.declared.views.Phase.{Phase}
use Rattle.rule_base.specs.declared.views.Phase.TheVariants.{In}
use Rattle.rule_base.specs.declared.views.View.{View}
use Rattle.rule_base.specs.GateRule.{may_hold}
use Rattle.rule_base.specs.World.{World, parts}

-- the caller has a part in some algorithm: one flag an algorithm
abbrev pub is_busy : View → Bool
is_busy v = if v.tml.inside then true else (if v.tml.writer then true else (if v.owned.inside then true else (if v.ring_read.inside then true else v.ring_commit.committed)))

-- what these clauses see of the world
pub record AttemptProjection : Type 0 where
  pub busy : ℕ → Bool
  pub entered : ℕ → Bool
  pub phases : ℕ → Phase

abbrev pub attempt_projection : World → AttemptProjection
attempt_projection w = record { busy = parts is_busy w.views; entered = parts (λ (v : View). v.attempt.entered) w.views; phases = parts (λ (v : View). v.gate.phase) w.views }

pub record AttemptRule (s : AttemptProjection) : Type 0 where
  pub busy : (n : ℕ) → s.busy n ≡ true → s.phases n ≡ In
  -- who raised the clock as the gate's holder is in its attempt or closing
  pub entered : (n : ℕ) → s.entered n ≡ true → may_hold (s.phases n) ≡ true
