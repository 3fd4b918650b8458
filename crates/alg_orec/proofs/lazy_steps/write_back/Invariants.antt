use Rattle.rule_orec.specs.OrecRuns.OrecStep.{orec_writes_back}
use Rattle.stm_rule.specs.Runs.CoreRuns.CoreStep.{of_orec}
use Rattle.rule_base.specs.StepKinds.{Nothing}
use Rattle.stm_rule.specs.Kept.{address_of}
use Rattle.alg_orec.proofs.lazy_steps.write_back.Given as goal

abbrev pub ghosts-store_as : goal.ghosts-store_as
ghosts-store_as g a = record { step = of_orec (orec_writes_back (address_of a.at) a.new); shows = Nothing; caller = a.said.now }
