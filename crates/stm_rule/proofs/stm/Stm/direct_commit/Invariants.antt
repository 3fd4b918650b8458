use Rattle.stm_rule.specs.Runs.CoreRuns.CoreStep.{direct_commits}
use Rattle.rule_seq.specs.CglSteps.{Commits}
use Rattle.stm_rule.specs.Kept.{good_of}
use Rattle.stm_rule.proofs.stm.Stm.direct_commit.Given as goal

abbrev pub ghosts-store_as : goal.ghosts-store_as
ghosts-store_as g a = record { step = direct_commits a.said.now.1 a.new; shows = (Commits (good_of g.K.MemRule.good a.self.now.config a.self.now.rule) a.self.now.config a.said.now.0 a.new); caller = a.said.now.0 }
