use Rattle.rule_orec.specs.OrecRuns.OrecStep.{orec_own_loads}
use Rattle.stm_rule.specs.Runs.CoreRuns.CoreStep.{of_orec}
use Rattle.stm_rule.specs.Kept.{good_of, address_of}
use Rattle.rule_orec.specs.OrecSteps.{OrecOwnLoads}
use Rattle.alg_orec.proofs.eager_steps.own_load.Given as goal

abbrev pub ghosts-load_as : goal.ghosts-load_as
ghosts-load_as g a = record { step = of_orec (orec_own_loads (address_of a.at)); shows = OrecOwnLoads (good_of g.K.MemRule.good a.self.now.config a.self.now.rule) a.self.now.config (address_of a.at); caller = a.said.now }
