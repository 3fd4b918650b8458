-- The exit status of the program, and what was read and written.
use Rattle.std.specs.Prelude.{ℕ, ◌≡◌, List, Option, Some, None}
use Rattle.std.specs.Borrow.{Bor}
use Rattle.stm_rule.specs.Closings.{Ended}
use Rattle.work_cli.specs.Asking.{Asks}
use Rattle.work_cli.specs.Helping.{help_of}
use Rattle.work_cli.specs.declared.command.Command.{Command}
use Rattle.work_cli.specs.declared.help.Topic.{Topic}
use Rattle.work_bench.specs.declared.status.Status.{Status}
use Rattle.work_bench.specs.declared.status.Status.TheVariants.{Help, Usage, WriteFault, Memory}
use Rattle.work_bench.specs.Outcomes.{IsOutcome}
use Rattle.work_bench.specs.Statuses.{exit_code_of}

module _ {S : Type 0} (left : S → Option (List ℕ)) (faults : S → ℕ) (source source' report report' : S) (words : List (Bor (List ℕ))) {K : Type 0} (held : K → Option (List ℕ)) (broken : K → ℕ) (sink sink' : K) where
  -- what was read and written is that of the status, and the exit status is the status's own
  pub record Exits (status : Status) (exit : ℕ) : Type 0 where
    pub last : Option Ended
    pub outcome : IsOutcome left faults source source' report report' words held broken sink sink' None last status
    pub is : exit ≡ exit_code_of status

-- WHICH STATUS WORDS MAY COME TO: want of memory and of an output is free
abbrev pub MayEnd : List (List ℕ) → Status → Type 0
MayEnd words Help = (topic : Topic) × (help_of words ≡ Some topic)
MayEnd words Usage = (help_of words ≡ None) × ((command : Command) → Asks words command → ⊥)
MayEnd words WriteFault = Unit {0}
MayEnd words Memory = Unit {0}
MayEnd words status = (help_of words ≡ None) × ((command : Command) × Asks words command)

-- the exit status is that of one
pub record EndsBy (words : List (List ℕ)) (exit : ℕ) : Type 0 where
  pub status : Status
  pub is : exit ≡ exit_code_of status
  pub may : MayEnd words status
