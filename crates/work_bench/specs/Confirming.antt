-- What `check` says of what `run` wrote.
use Rattle.std.specs.Prelude.{ℕ, ◌≤◌, ◌++◌, List, length, Option}
use Rattle.work_profile.specs.declared.policy.Policy.{Policy}
use Rattle.stm_rule.specs.Closings.{Ended}
use Rattle.work_text.specs.declared.parse.Mode.TheVariants.{Run}
use Rattle.work_check.specs.declared.reading.TheConstants.{MAX_REPORT}
use Rattle.work_bench.specs.declared.status.Status.TheVariants.{Ok as Done}
use Rattle.work_bench.specs.Checks.{SaidOfCheck}
use Rattle.work_bench.specs.Messages.{yes_line}
use Rattle.work_bench.specs.Outcomes.{SaidOf}

-- of a workload's text, and after it what `run` said at status 0 of it, `check` says yes, where that isn't too long
abbrev pub RunIsConfirmed : Type 0
RunIsConfirmed = (policy : Policy) (text : List ℕ) (closed : Option Ended) (said : List ℕ) → SaidOf Run policy text Done closed said → length said ≤ MAX_REPORT → SaidOfCheck (text ++ said) Done yes_line
