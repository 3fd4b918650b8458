use Rattle.stm_rule.specs.Runs.CoreRuns.CoreStep.{fence_commits}
use Rattle.rule_base.specs.FenceSteps.{FenceCommits}
use Rattle.stm_rule.specs.Kept.{good_of}
use Rattle.stm_rule.proofs.stm.Stm.fence_commit.Given as goal

abbrev pub ghosts-store_own_as : goal.ghosts-store_own_as
ghosts-store_own_as g a = record { step = fence_commits a.said.now.1 a.new; shows = FenceCommits (good_of g.K.MemRule.good a.self.now.config a.self.now.rule) a.self.now.config a.said.now.0 a.new; caller = a.said.now.0 }
