-- The numbers of profiles and policies.
use Rattle.std.specs.Prelude.{◌≡◌}
use Rattle.work_profile.specs.declared.policy.TheConstants.{MOST_ROUND, MOST_STATE}
use Rattle.work_profile.specs.declared.profile.TheConstants.{WINDOW, MOST_SINCE}

pub record LimitsAre : Type 0 where
  -- how many outcomes a window has, and how many are counted
  pub window : WINDOW ≡ 16
  pub since : MOST_SINCE ≡ 65536
  -- the greatest number after `round:`, and after `state:`
  pub round : MOST_ROUND ≡ 65536
  pub state : MOST_STATE ≡ 16
