use Rattle.stm_rule.specs.Runs.CoreRuns.CoreStep.{unfences}
use Rattle.rule_base.specs.StepKinds.{Nothing}
use Rattle.stm_rule.proofs.stm.Stm.unfence.Given as goal

abbrev pub ghosts-store_own_as : goal.ghosts-store_own_as
ghosts-store_own_as g a = record { step = unfences a.said.now.1; shows = Nothing; caller = a.said.now.0 }
