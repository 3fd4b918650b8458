-- A workload, taken apart for its run.
use Rattle.std.specs.Prelude.{◌≡◌, length}
use Rattle.work_script.specs.declared.workload.Workload.{Workload}
use Rattle.work_script.specs.Reports.{regions_of}
use Rattle.work_driver.specs.Partings.{parted}
use Rattle.work_bench.specs.declared.parts.Parts.{Parts}

-- what each caller is to do, and what a run takes beside it
pub record AreParts (w : Workload) (p : Parts) : Type 0 where
  pub header : p.header ≡ w.header
  pub callers : p.callers.items ≡ parted w.header.callers w.items
  pub count : p.count ≡ length w.items
  pub regions : p.regions ≡ regions_of w.header
  pub schedule : p.schedule ≡ w.schedule
