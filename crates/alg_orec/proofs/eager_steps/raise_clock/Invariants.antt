use Rattle.rule_orec.specs.OrecRuns.OrecStep.{orec_raises_clock}
use Rattle.stm_rule.specs.Runs.CoreRuns.CoreStep.{of_orec}
use Rattle.alg_orec.specs.RecordFindings.{FindsClock}
use Rattle.alg_orec.proofs.eager_steps.raise_clock.Given as goal

abbrev pub ghosts-raise_as : goal.ghosts-raise_as
ghosts-raise_as g a = record { step = of_orec (orec_raises_clock a.least); shows = FindsClock a.self.now.config; caller = a.said.now }
