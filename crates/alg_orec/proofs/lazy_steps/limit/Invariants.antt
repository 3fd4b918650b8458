use Rattle.rule_orec.specs.OrecRuns.OrecStep.{orec_limits}
use Rattle.stm_rule.specs.Runs.CoreRuns.CoreStep.{of_orec}
use Rattle.alg_orec.specs.RecordFindings.{FindsClock}
use Rattle.alg_orec.proofs.lazy_steps.limit.Given as goal

abbrev pub ghosts-load_as : goal.ghosts-load_as
ghosts-load_as g a = record { step = of_orec orec_limits; shows = FindsClock a.self.now.config; caller = a.said.now }
