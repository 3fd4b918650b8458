-- What a memory has to have for its place.
use Rattle.std.specs.Prelude.{◌≤◌}
use Rattle.stm_rule.specs.declared.stm.Stm.{Stm}
use Rattle.perf_core.specs.declared.work_region.WorkRegion.{WorkRegion}
use Rattle.perf_core.specs.declared.plan.TheConstants.{ACCOUNTS}
use Rattle.perf_core.specs.Jobs.{RegionFits}

-- the memory has room for its region, and for the accounts
abbrev pub FitsWorkRegion : Stm WorkRegion → Type 0
FitsWorkRegion stm = RegionFits stm.rule.region stm.config.words × (ACCOUNTS ≤ stm.config.words)
