use Rattle.work_text.proofs.RegionLaws.{workload-fits}
use Rattle.work_text.proofs.laws.parsed_workloads_fit.Goals as goal

pub returns : goal.returns
returns c = workload-fits c.version_one_is_laid_out.ensures.plain
