use Rattle.std.proofs.Common.{List, ℕ, length, sym, ap, subst, ◌∙◌}
use Rattle.data_regions.specs.declared.region.Region.{Region}
use Rattle.data_regions.specs.Regions.{AllWellFormed}
use Rattle.work_script.specs.declared.workload.Header.{Header}
use Rattle.work_script.specs.declared.workload.Item.{Item}
use Rattle.work_script.specs.Reports.{regions_of, zeros}
use Rattle.work_text.specs.Parsed.{HeaderFits}
use Rattle.work_driver.specs.AllWorkers.{workers_in}
use Rattle.work_driver.specs.Partings.{parted, parts-length}
use Rattle.work_driver.specs.Preparings.{HasRoom, IsPrepared, WorkloadKeeps}
use Rattle.work_bench.proofs.parts.Parts.prepare.Goals as goal

pub prepare-requires-clause-fits : goal.prepare-requires-clause-fits
prepare-requires-clause-fits g c κs within = subst HeaderFits (sym c.requires.3.header) c.requires.2.header

pub prepare-requires-clause-good : goal.prepare-requires-clause-good
prepare-requires-clause-good g c κs within =
    let same = sym c.requires.3.header in
    let words = c.args.self.now.header.words in
    subst (λ (rs : List Region). AllWellFormed rs (zeros words)) (sym c.in_ok-rule.ensures)
    (subst (λ (h : Header). AllWellFormed (regions_of h) (zeros h.words)) same (c.regions_are_kept.ensures.holds c.requires.1))

pub prepare-requires-clause-parts : goal.prepare-requires-clause-parts
prepare-requires-clause-parts g c κs within =
    let w = c.requires.1 in
    let apart = c.requires.3 in
    ap length (c.as_slice.ensures.value ∙ apart.callers) ∙ (parts-length 0 w.header.callers w.items ∙ ap (λ (h : Header). h.callers) (sym apart.header))

pub prepare-requires-clause-regions : goal.prepare-requires-clause-regions
prepare-requires-clause-regions g c κs within = c.requires.3.regions ∙ ap regions_of (sym c.requires.3.header)

pub returns : goal.returns
returns g c = λ mode w is_parsed apart.
    let p = c.in_ok-prepared.prepared in
    let e = c.in_ok-prepared.ensures in
    let regions = e.rule ∙ (c.in_ok-rule.ensures ∙ ap regions_of apart.header) in
    let prepared = subst (λ (ps : List (List Item)). IsPrepared c.args.self.now.header c.args.policy ps p.stm (workers_in p.runners.items)) (c.as_slice.ensures.value ∙ apart.callers) e.prepared in
    let room = subst (λ (n : ℕ). HasRoom c.args.self.now.header.callers n c.args.self.now.header.words p.room) apart.count e.room in
    record {
      is_parsed = is_parsed;
      keeps = subst (λ (rs : List Region). WorkloadKeeps (AllWellFormed rs) w) (sym regions) (c.regions_are_kept.ensures.kept mode w is_parsed);
      regions = λ m good. subst (λ (rs : List Region). AllWellFormed rs m) regions good;
      prepared = subst (λ (h : Header). IsPrepared h c.args.policy (parted w.header.callers w.items) p.stm (workers_in p.runners.items)) apart.header prepared;
      room = subst (λ (h : Header). HasRoom h.callers (length w.items) h.words p.room) apart.header room;
    }
