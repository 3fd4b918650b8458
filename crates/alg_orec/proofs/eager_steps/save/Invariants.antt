use Rattle.rule_orec.specs.OrecRuns.OrecStep.{orec_saves}
use Rattle.stm_rule.specs.Runs.CoreRuns.CoreStep.{of_orec}
use Rattle.rule_base.specs.StepKinds.{Nothing}
use Rattle.stm_rule.specs.Kept.{address_of}
use Rattle.alg_orec.proofs.eager_steps.save.Given as goal

abbrev pub ghosts-load_as : goal.ghosts-load_as
ghosts-load_as g a = record { step = of_orec (orec_saves (address_of a.at)); shows = Nothing; caller = a.said.now }
