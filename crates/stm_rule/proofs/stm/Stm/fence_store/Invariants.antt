use Rattle.stm_rule.specs.Runs.CoreRuns.CoreStep.{fence_stores}
use Rattle.rule_base.specs.StepKinds.{Nothing}
use Rattle.stm_rule.specs.Kept.{address_of}
use Rattle.stm_rule.proofs.stm.Stm.fence_store.Given as goal

abbrev pub ghosts-store_own_as : goal.ghosts-store_own_as
ghosts-store_own_as g a = record { step = fence_stores (address_of a.at) a.new; shows = Nothing; caller = a.said.now }
