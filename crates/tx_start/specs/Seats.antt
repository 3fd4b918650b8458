-- What the jobs' crate sees of a caller of the engine.
use Rattle.std.specs.Prelude.{ℕ}
use Rattle.stm_rule.specs.declared.stm.Stm.{Stm}
use Rattle.stm_rule.specs.Callers.{Handle}
use Rattle.stm_tx.specs.Descs.{number}
use Rattle.stm_answers.specs.CallerState.{CallerState}
use Rattle.tx_jobs.specs.Known.{Seat, Known}

-- with its count of commits
abbrev pub shown : CallerState → ℕ → Known
shown v commits = record { made = v.made; seen = v.seen; front = v.front; installs = v.installs; commits = commits; top = v.top }

abbrev pub seat_of : {K : Type 0} → Stm K → Handle K → Seat K
seat_of stm d = record { rule = stm.rule; words = stm.config.words; callers = stm.config.callers; number = number d }
