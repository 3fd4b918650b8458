use Rattle.rule_seq.specs.CglRuns.CglStep.{stores_back}
use Rattle.stm_rule.specs.Runs.CoreRuns.CoreStep.{of_cgl}
use Rattle.rule_base.specs.StepKinds.{Nothing}
use Rattle.stm_rule.specs.Kept.{address_of}
use Rattle.stm_rule.proofs.stm.Stm.store_back.Given as goal

abbrev pub ghosts-store_as : goal.ghosts-store_as
ghosts-store_as g a = record { step = of_cgl (stores_back (address_of a.at) a.new); shows = Nothing; caller = a.said.now }
