use Rattle.std.proofs.Common.{length, refl, ap, ◌∙◌}
use Rattle.work_driver.specs.Partings.{parted}
use Rattle.work_bench.proofs.parts.Parts.of.Goals as goal

pub returns : goal.returns
returns c = record {
  header = refl;
  callers = c.in_ok-callers.ensures ∙ ap (parted c.args.workload.header.callers) c.into_vec.ensures;
  count = ap length c.as_slice-count.ensures;
  regions = c.in_ok-regions.ensures;
  schedule = refl;
}
