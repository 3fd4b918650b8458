-- What the engine's evidence tells of a closed memory.
use Rattle.std.specs.Prelude.{ℕ, List, map}
use Rattle.stm_rule.specs.Closings.{Ended}
use Rattle.tx_atomic.specs.declared.tally.Tally.{Tally}
use Rattle.tx_jobs.specs.Stories.{Past}

abbrev pub commits_of : Tally → ℕ
commits_of t = t.commits

abbrev pub past_of : Ended → List Tally → Past
past_of e tallies = record { clock = e.clock; history = e.history; installs = e.installs; commits = map commits_of tallies }
