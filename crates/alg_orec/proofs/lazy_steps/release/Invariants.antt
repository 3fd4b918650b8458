use Rattle.rule_orec.specs.OrecRuns.OrecStep.{orec_times}
use Rattle.stm_rule.specs.Runs.CoreRuns.CoreStep.{of_orec}
use Rattle.rule_base.specs.StepKinds.{Nothing}
use Rattle.alg_orec.proofs.Picking.{record_of}
use Rattle.alg_orec.proofs.lazy_steps.release.Given as goal

abbrev pub ghosts-store_as : goal.ghosts-store_as
ghosts-store_as g a = record { step = of_orec (orec_times (record_of a.at) a.said.now.1); shows = Nothing; caller = a.said.now.0 }
