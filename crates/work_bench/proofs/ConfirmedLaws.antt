-- What `run` wrote, as `check` reads it.
use Rattle.std.proofs.Common.{List, ℕ, ◌≤◌, ◌++◌, length, refl, sym, subst, Some, None}
use Rattle.std.specs.Prelude.{Option}
use Rattle.work_profile.specs.declared.policy.Policy.{Policy}
use Rattle.stm_rule.specs.Closings.{Ended}
use Rattle.work_text.specs.declared.parse.Mode.TheVariants.{Run}
use Rattle.work_check.specs.declared.reading.TheConstants.{MAX_REPORT}
use Rattle.work_check.specs.Checks.{IsYes}
use Rattle.work_check.specs.Texts.{AfterIsConfirmed}
use Rattle.work_bench.specs.declared.status.Status.TheVariants.{Ok as Done}
use Rattle.work_bench.specs.Checks.{SaidOfCheck}
use Rattle.work_bench.specs.Messages.{yes_line}
use Rattle.work_bench.specs.Outcomes.{SaidOf, RanToEnd}

pub run-confirmed : AfterIsConfirmed → (policy : Policy) (text : List ℕ) (closed : Option Ended) (said : List ℕ) → SaidOf Run policy text Done closed said → length said ≤ MAX_REPORT → SaidOfCheck (text ++ said) Done yes_line
run-confirmed behind policy text None said was le = absurd was.run
run-confirmed behind policy text (Some closed) said was le =
    let ran : RanToEnd policy was.workload closed said = was.run in
    let short = subst (λ (t : List ℕ). length t ≤ MAX_REPORT) ran.is le in
    (subst (λ (t : List ℕ). IsYes (text ++ t)) (sym ran.is) (behind Run text was.workload ran.report was.parses ran.shown.replays ran.fits short), refl)
