use Rattle.stm_rule.specs.Runs.CoreRuns.CoreStep.{direct_loads}
use Rattle.rule_seq.specs.CglSteps.{Loads}
use Rattle.stm_rule.specs.Kept.{address_of, good_of}
use Rattle.stm_rule.proofs.stm.Stm.direct_load.Given as goal

abbrev pub ghosts-load_as : goal.ghosts-load_as
ghosts-load_as g a = record { step = direct_loads (address_of a.at); shows = (Loads (good_of g.K.MemRule.good a.self.now.config a.self.now.rule) a.self.now.config (address_of a.at)); caller = a.said.now }
