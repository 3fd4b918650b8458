use Rattle.std.proofs.Common.{ap, subst, ◌∙◌}
use Rattle.work_profile.specs.Policies.{ruling}
use Rattle.work_script.specs.declared.workload.Header.{Header}
use Rattle.work_driver.specs.Runs.{HasRun}
use Rattle.work_text.specs.declared.parse.Mode.TheVariants.{Run}
use Rattle.work_bench.proofs.parts.run_workload.Goals as goal

pub of-requires : goal.of-requires
of-requires g c = (Run, c.requires)

pub prepare-requires : goal.prepare-requires
prepare-requires g c = (c.type_bounds.sync-R, (Run, c.args.workload, c.requires, c.in_ok-parts.ensures))

pub run-requires-clause-ready : goal.run-requires-clause-ready
run-requires-clause-ready g c κs within =
    let w = c.args.workload in
    (c.ruling.result, w, c.in_ok-prepared.ensures Run w c.requires c.in_ok-parts.ensures)

pub returns : goal.returns
returns g c =
    let w = c.args.workload in
    let is = c.ruling.ensures ∙ ap (λ (h : Header). ruling c.args.policy h.policy) c.in_ok-parts.ensures.header in
    subst (λ p. HasRun p w c.run.result) is (c.run.ensures c.ruling.result w (c.in_ok-prepared.ensures Run w c.requires c.in_ok-parts.ensures))
