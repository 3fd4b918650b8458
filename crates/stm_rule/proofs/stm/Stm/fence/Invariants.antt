use Rattle.stm_rule.specs.Runs.CoreRuns.CoreStep.{fences}
use Rattle.stm_rule.specs.FenceFindings.{FindsPast}
use Rattle.stm_rule.specs.Kept.{good_of}
use Rattle.stm_rule.proofs.stm.Stm.fence.Given as goal

abbrev pub ghosts-store_own_as : goal.ghosts-store_own_as
ghosts-store_own_as g a = record { step = fences a.said.now.1 a.said.now.2 a.said.now.3; shows = FindsPast (good_of g.K.MemRule.good a.self.now.config a.self.now.rule) a.self.now.config; caller = a.said.now.0 }
