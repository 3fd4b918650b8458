use Rattle.stm_rule.specs.Runs.CoreRuns.CoreStep.{direct_stores}
use Rattle.rule_base.specs.StepKinds.{Nothing}
use Rattle.stm_rule.specs.Kept.{address_of}
use Rattle.stm_rule.proofs.stm.Stm.direct_store.Given as goal

abbrev pub ghosts-store_as : goal.ghosts-store_as
ghosts-store_as g a = record { step = direct_stores (address_of a.at) a.new; shows = Nothing; caller = a.said.now }
