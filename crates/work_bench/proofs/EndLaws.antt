-- Which status words come to.
use Rattle.std.proofs.Common.{ℕ, ◌≡◌, List}
use Rattle.std.specs.Prelude.{Option, None}
use Rattle.std.specs.Borrow.{Bor}
use Rattle.stm_rule.specs.Closings.{Ended}
use Rattle.work_cli.specs.Asking.{texts_of}
use Rattle.work_bench.specs.declared.status.Status.{Status}
use Rattle.work_bench.specs.declared.status.Status.TheVariants.{Ok as Done, Help, Usage, Refused, ReadFault, WriteFault, Memory, ClockFull, No}
use Rattle.work_bench.specs.Exits.{EndsBy, MayEnd}
use Rattle.work_bench.specs.Outcomes.{IsOutcome}
use Rattle.work_bench.specs.Statuses.{exit_code_of}

module _ {S : Type 0} (left : S → Option (List ℕ)) (faults : S → ℕ) (source source' report report' : S) (words : List (Bor (List ℕ))) {K : Type 0} (held : K → Option (List ℕ)) (broken : K → ℕ) (sink sink' : K) where
  may-end : (last : Option Ended) (status : Status) → IsOutcome left faults source source' report report' words held broken sink sink' None last status → MayEnd (texts_of words) status
  may-end last Done h = (h.says.no_help, (h.says.command, h.says.words_are))
  may-end last Help h = (h.says.0.topic, h.says.0.words_are)
  may-end last Usage h = (h.says.0.no_help, h.says.0.words_are)
  may-end last (Refused line fault) h = (h.says.no_help, (h.says.command, h.says.words_are))
  may-end last ReadFault h = (h.says.no_help, (h.says.command, h.says.words_are))
  may-end last WriteFault h = tt
  may-end last Memory h = tt
  may-end last (ClockFull clock) h = (h.says.no_help, (h.says.command, h.says.words_are))
  may-end last (No line) h = (h.says.no_help, (h.says.command, h.says.words_are))

  pub ends_by : (last : Option Ended) (status : Status) (exit : ℕ) → IsOutcome left faults source source' report report' words held broken sink sink' None last status
      → exit ≡ exit_code_of status → EndsBy (texts_of words) exit
  ends_by last status exit outcome is = record { status = status; is = is; may = may-end last status outcome }
