use Rattle.work_script.specs.Reports.{regions_of}
use Rattle.work_driver.proofs.KeepingLaws.{workload-keeps}
use Rattle.work_driver.proofs.laws.regions_are_kept.Goals as goal

pub returns : goal.returns
returns c = record {
  holds = λ w. c.memories_stay_good.ensures.opening (regions_of w.header) w.header.words;
  kept = workload-keeps c.operations_keep_regions.ensures c.parsed_workloads_fit.ensures;
}
