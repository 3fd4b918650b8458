-- What is known of an attempt at a transaction.
use Rattle.std.specs.Prelude.{ℕ, ◌≡◌, ◌≤◌, ◌⊎◌, List}
use Rattle.stm_model.specs.declared.config.Config.{Config}
use Rattle.stm_model.specs.declared.stop.Stop.{Stop}
use Rattle.stm_model.specs.declared.stop.Stop.TheVariants as stops
use Rattle.stm_model.specs.Logs.{Log, Keeps}
use Rattle.stm_answers.specs.declared.answers.Commit.TheVariants.{Committed, ReadOnly}
use Rattle.stm_answers.specs.Answers.{Commits}
use Rattle.stm_answers.specs.CallerState.{CallerState, IsRunning, no_log}
use Rattle.tx_atomic.specs.declared.tally.Ended.{Ended}
use Rattle.tx_atomic.specs.declared.tally.Ended.TheVariants as ends
use Rattle.tx_atomic.specs.Extends.{Extends}

-- it has done nothing, and may read and write everywhere
abbrev pub IsFresh : CallerState → Type 0
IsFresh v = IsRunning v × (v.log ≡ no_log) × (v.fence ≡ 0)

-- its log keeps the rule
abbrev pub MayCommit : (List ℕ → Type 0) → Config → CallerState → Type 0
MayCommit good c v = IsRunning v × Keeps good c.words v.log

-- how it ended that was stopped so
abbrev pub ended_by : Stop → Ended
ended_by (stops.Conflict cause) = ends.Conflict cause
ended_by (stops.Full limit) = ends.Full
ended_by (stops.ClockFull clock) = ends.ClockFull

-- from u to w one attempt took effect, and its commit was the last call: what it had read and written is such a log,
-- and no attempt before it left an entry; it knew all that u had seen, and its start is no earlier than this
pub record TookEffect (good : List ℕ → Type 0) (c : Config) (n : ℕ) (tells : Log → Type 0) (from : ℕ) (u w : CallerState) : Type 0 where
  pub before : CallerState
  pub told : tells before.log
  pub made : before.made ≡ u.made
  pub grows : Extends u before
  pub later : from ≤ before.start
  pub time : ℕ
  pub commits : Commits good c n (Committed time) before w ⊎ Commits good c n (ReadOnly time) before w
