use Rattle.std.proofs.Common.{◌≡◌, ◌≤◌, false, length, ap, subst, ◌∙◌}
use Rattle.work_profile.specs.declared.policy.Policy.TheVariants.{Fixed}
use Rattle.work_profile.specs.Policies.{ruling}
use Rattle.work_script.specs.declared.workload.Workload.{Workload}
use Rattle.work_driver.specs.Runs.{HasRun, IsShown}
use Rattle.work_gen.specs.Summaries.{summary_bytes}
use Rattle.work_bench.proofs.Limits.{never-full}
use Rattle.work_bench.proofs.commands.summarize.Goals as goal

pub returns-in-ToEnd : goal.returns-in-ToEnd
returns-in-ToEnd g c =
    let report = c.in-ToEnd.report in
    let shown = subst (HasRun (ruling Fixed c.in_ok-workload.workload.header.policy) c.in_ok-workload.workload) c.in-ToEnd.is c.in_ok-outcome.ensures in
    let shown' = subst (λ (w : Workload). IsShown false (ruling Fixed w.header.policy) w report c.in-ToEnd.closed) c.in_ok-workload.ensures.generated shown in
    record {
      report = report;
      shown = shown';
      is = c.in_ok-summary_text-in-ToEnd.ensures ∙ ap summary_bytes c.of.ensures;
      counted = c.summary_is_counted.ensures c.args.transactions c.args.callers c.args.seed report c.requires.transactions c.requires.callers.0 shown'.replays;
    }

pub unreachable-unreachable : goal.unreachable-unreachable
unreachable-unreachable g c =
    let w = c.in_ok-workload.workload in
    let full = subst (HasRun (ruling Fixed w.header.policy) w) c.in-ToLimit.is c.in_ok-outcome.ensures in
    let opens : w.header.clock ≡ 0 = ap (λ (v : Workload). v.header.clock) c.in_ok-workload.ensures.generated in
    let few : length w.items ≤ 65536 = c.in_ok-workload.ensures.is_parsed.count in
    never-full (ruling Fixed w.header.policy) w c.in-ToLimit.clock c.in-ToLimit.closed opens few full
