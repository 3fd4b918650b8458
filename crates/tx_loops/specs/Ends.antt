-- What a commit comes to, and a write.
use Rattle.std.specs.Prelude.{Bool, true, false, Result, Ok, Err}
use Rattle.stm_answers.specs.declared.answers.Commit.{Commit}
use Rattle.stm_answers.specs.declared.answers.Commit.TheVariants as commits
use Rattle.stm_answers.specs.declared.answers.Write.{Write}
use Rattle.stm_answers.specs.declared.answers.Write.TheVariants as writes
use Rattle.tx_checked.specs.declared.misuse.Misuse.{Misuse}
use Rattle.tx_loops.specs.declared.ends.CommitOutcome.{CommitOutcome}
use Rattle.tx_loops.specs.declared.ends.CommitOutcome.TheVariants.{Done, Again, Refused}

abbrev pub outcome_of : Result Commit Misuse → CommitOutcome
outcome_of (Ok (commits.Committed time)) = Done
outcome_of (Ok (commits.ReadOnly time)) = Done
outcome_of (Ok (commits.Again word had now)) = Again
outcome_of (Ok (commits.Conflict cause)) = Refused
outcome_of (Ok (commits.ClockFull clock)) = Refused
outcome_of (Err e) = Refused

abbrev pub is_written : Result Write Misuse → Bool
is_written (Ok writes.Done) = true
is_written (Ok (writes.Conflict cause)) = false
is_written (Ok (writes.Full limit)) = false
is_written (Ok (writes.ClockFull clock)) = false
is_written (Err e) = false
