use Rattle.std.proofs.Common.{◌∙◌, ap, subst}
use Rattle.data_regions.specs.Regions.{AllWellFormed}
use Rattle.work_script.specs.declared.workload.Header.{Header}
use Rattle.work_driver.specs.Preparings.{IsReadyFor}
use Rattle.work_text.specs.declared.parse.Mode.TheVariants.{Step}
use Rattle.work_bench.proofs.parts.step_workload.Goals as goal

pub of-requires : goal.of-requires
of-requires g c = (Step, c.requires)

pub prepare-requires : goal.prepare-requires
prepare-requires g c = (c.type_bounds.sync-R, (Step, c.args.workload, c.requires, c.in_ok-parts.ensures))

pub step-requires : goal.step-requires
step-requires g c =
    let w = c.args.workload in
    let p = c.in_ok-prepared.prepared in
    let same = ap (λ (h : Header). h.policy) c.in_ok-parts.ensures.header in
    let ready = subst (λ policy. IsReadyFor (AllWellFormed p.stm.rule) Step policy w p) same (c.in_ok-prepared.ensures Step w c.requires c.in_ok-parts.ensures) in
    record { ready = (w, ready, c.as_slice.ensures ∙ c.in_ok-parts.ensures.schedule) }

pub returns : goal.returns
returns g c =
    let w = c.args.workload in
    let p = c.in_ok-prepared.prepared in
    let same = ap (λ (h : Header). h.policy) c.in_ok-parts.ensures.header in
    let ready = subst (λ policy. IsReadyFor (AllWellFormed p.stm.rule) Step policy w p) same (c.in_ok-prepared.ensures Step w c.requires c.in_ok-parts.ensures) in
    c.step.ensures w ready (c.as_slice.ensures ∙ c.in_ok-parts.ensures.schedule)
