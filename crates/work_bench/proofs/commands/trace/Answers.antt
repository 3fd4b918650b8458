use Rattle.std.proofs.Common.{List, ℕ, ap, subst, ◌∙◌, ◌++◌}
use Rattle.work_driver.specs.Runs.{HasStepped}
use Rattle.work_trace.specs.Texts.{trace_bytes}
use Rattle.work_bench.proofs.commands.trace.Goals as goal

pub returns-in-ToEnd : goal.returns-in-ToEnd
returns-in-ToEnd g c = λ policy.
    let w = c.args.workload in
    let lines = c.in_ok-lines.lines.items in
    let came = subst (HasStepped w lines) c.in-ToEnd.is c.in_ok-lines.ensures in
    let trace = c.in_ok-trace_text-in-ToEnd.ensures ∙ ap trace_bytes c.as_slice.ensures.value in
    let other = c.in_ok-report_text-in-ToEnd.field-0.items in
    let is = c.in_ok-behind-in-ToEnd.ensures ∙ (ap (λ (t : List ℕ). t ++ other) trace ∙ ap (λ (t : List ℕ). trace_bytes lines ++ t) c.in_ok-report_text-in-ToEnd.ensures.text) in
    record { lines = lines; report = c.in-ToEnd.report; traced = came; is = is }

pub returns-in-ToLimit : goal.returns-in-ToLimit
returns-in-ToLimit g c = λ policy.
    let w = c.args.workload in
    let lines = c.in_ok-lines.lines.items in
    let came = subst (HasStepped w lines) c.in-ToLimit.is c.in_ok-lines.ensures in
    let trace = c.in_ok-trace_text-in-ToLimit.ensures ∙ ap trace_bytes c.as_slice-in-ToLimit.ensures.value in
    let other = c.in_ok-clock_full-in-ToLimit.field-0.items in
    let is = c.in_ok-behind-in-ToLimit.ensures ∙ (ap (λ (t : List ℕ). t ++ other) trace ∙ ap (λ (t : List ℕ). trace_bytes lines ++ t) c.in_ok-clock_full-in-ToLimit.ensures) in
    record { lines = lines; cut = came; is = is }
