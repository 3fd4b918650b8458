-- What a caller's tally counts.
use Rattle.std.specs.Prelude.{ℕ, ◌≡◌, ◌<◌, List, [], length, get_or}
use Rattle.stm_model.specs.declared.config.TheConstants.{MOST_LOG}
use Rattle.stm_model.specs.declared.alg.Alg.{Alg}
use Rattle.stm_model.specs.declared.config.Config.{Config}
use Rattle.stm_model.specs.Histories.{made_by}
use Rattle.stm_rule.specs.Closings.{Ended}
use Rattle.stm_answers.specs.CallerState.{CallerState}
use Rattle.tx_atomic.specs.declared.tally.Tally.{Tally}
use Rattle.tx_atomic.specs.Accounts.{Account}
use Rattle.tx_atomic.specs.Courses.{HasCourse}
use Rattle.tx_atomic.specs.Tallies.{none}
use Rattle.tx_jobs.specs.Stories.{first_installs}

-- where no observer is told, and logs are lengthened as far as logs can be
abbrev pub unobserved : Tally → Account (Unit {0})
unobserved t = record { tally = t; heard = tt; most = MOST_LOG }

-- from u to w each attempt of the caller was counted, once, by what it came to: so the tally s came to be t
abbrev pub Counts : (List ℕ → Type 0) → Config → ℕ → CallerState → CallerState → Tally → Tally → Type 0
Counts good c n u w s t = HasCourse good c n (λ ended at heard. heard) u w (unobserved s) (unobserved t)

-- the tally counts all that caller n did in a memory that was closed: from when it had made nothing, to when it had
-- made what the history has of it and installed what is told of it
pub record IsCounted (good : List ℕ → Type 0) (c : Config) (alg : Alg) (e : Ended) (n : ℕ) (t : Tally) : Type 0 where
  pub before : CallerState
  pub after : CallerState
  pub fresh : before.made ≡ []
  pub begun : before.installs ≡ first_installs alg n
  pub made : after.made ≡ made_by n e.history
  pub installed : get_or e.installs n [] ≡ after.installs
  pub counts : Counts good c n before after none t

-- one tally a caller
pub record AllCounted (good : List ℕ → Type 0) (c : Config) (alg : Alg) (e : Ended) (tallies : List Tally) : Type 0 where
  pub count : length tallies ≡ c.callers
  pub each : (i : ℕ) (t : Tally) → i < length tallies → IsCounted good c alg e i (get_or tallies i t)
