use Rattle.stm_rule.specs.Runs.CoreRuns.CoreStep.{direct_raises_clock}
use Rattle.alg_orec.specs.RecordFindings.{FindsStill}
use Rattle.alg_orec.proofs.promoting_steps.direct_raise_clock.Given as goal

abbrev pub ghosts-raise_as : goal.ghosts-raise_as
ghosts-raise_as g a = record { step = direct_raises_clock a.least; shows = FindsStill a.self.now.config; caller = a.said.now }
