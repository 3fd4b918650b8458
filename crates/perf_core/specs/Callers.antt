-- The callers of a run, by their descriptors.
use Rattle.std.specs.Prelude.{List, map}
use Rattle.crossbeam_utils.specs.declared.cache_padded.CachePadded.{CachePadded}
use Rattle.crossbeam_utils.specs.Padded.{padded_value}
use Rattle.stm_rule.specs.Callers.{Handle}
use Rattle.perf_core.specs.declared.caller.Caller.{Caller}
use Rattle.perf_core.specs.declared.work_region.WorkRegion.{WorkRegion}

abbrev pub desc_in : CachePadded Caller → Handle WorkRegion
desc_in c = (padded_value c).desc

abbrev pub descs_in : List (CachePadded Caller) → List (Handle WorkRegion)
descs_in cs = map desc_in cs
