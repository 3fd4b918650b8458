use Rattle.stm_rule.specs.Runs.CoreRuns.CoreStep.{fence_loads}
use Rattle.rule_base.specs.FenceSteps.{FenceLoads}
use Rattle.stm_rule.specs.Kept.{address_of}
use Rattle.stm_rule.proofs.stm.Stm.fence_load.Given as goal

abbrev pub ghosts-load_as : goal.ghosts-load_as
ghosts-load_as g a = record { step = fence_loads (address_of a.at); shows = FenceLoads (address_of a.at); caller = a.said.now }
