-- What a profile keeps of the attempts that were noted.
use Rattle.std.specs.Prelude.{ℕ, ◌+◌, Bool, true, false, List, [], ◌∷◌, ◌++◌, length, min, count_by}
use Rattle.circular_buffer.specs.Buffer.{keep_last}
use Rattle.work_profile.specs.declared.outcome.Outcome.{Outcome}
use Rattle.work_profile.specs.declared.outcome.Outcome.TheVariants.{Committed, ReadOnly, Cancelled, Conflict, Full}
use Rattle.work_profile.specs.declared.profile.TheConstants.{WINDOW, MOST_SINCE}

-- what contracts see of a profile: the last outcomes, the oldest first, and how many were noted
pub record Noted : Type 0 where
  pub window : List Outcome
  pub since : ℕ

-- the profile of all outcomes since the last clear: the last 16, and their number, which stays at 65,536
abbrev pub profile_of : List Outcome → Noted
profile_of outcomes = record { window = keep_last WINDOW outcomes; since = min (length outcomes) MOST_SINCE }

-- one outcome more
abbrev pub with_outcome : Noted → Outcome → Noted
with_outcome p outcome = record { window = keep_last WINDOW (p.window ++ outcome ∷ []); since = min (p.since + 1) MOST_SINCE }

abbrev pub is_conflict : Outcome → Bool
is_conflict Committed = false
is_conflict ReadOnly = false
is_conflict Cancelled = false
is_conflict Conflict = true
is_conflict Full = false

abbrev pub is_full : Outcome → Bool
is_full Committed = false
is_full ReadOnly = false
is_full Cancelled = false
is_full Conflict = false
is_full Full = true

abbrev pub is_commit : Outcome → Bool
is_commit Committed = true
is_commit ReadOnly = false
is_commit Cancelled = false
is_commit Conflict = false
is_commit Full = false

-- how many of them are conflicts
abbrev pub conflicts : List Outcome → ℕ
conflicts outcomes = count_by is_conflict outcomes

-- full logs
abbrev pub full_logs : List Outcome → ℕ
full_logs outcomes = count_by is_full outcomes

-- commits of what was written
abbrev pub commits : List Outcome → ℕ
commits outcomes = count_by is_commit outcomes
