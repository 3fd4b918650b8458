use Rattle.rule_seq.specs.CglRuns.CglStep.{loads_limit}
use Rattle.stm_rule.specs.Runs.CoreRuns.CoreStep.{of_cgl}
use Rattle.rule_seq.specs.CglSteps.{LoadsLimit}
use Rattle.stm_rule.proofs.stm.Stm.load_limit.Given as goal

abbrev pub ghosts-load_as : goal.ghosts-load_as
ghosts-load_as g a = record { step = of_cgl (loads_limit a.said.now.1); shows = LoadsLimit; caller = a.said.now.0 }
