use Rattle.rule_seq.specs.TmlRuns.TmlStep.{tml_commits}
use Rattle.stm_rule.specs.Runs.CoreRuns.CoreStep.{of_tml}
use Rattle.rule_seq.specs.CglSteps.{Commits}
use Rattle.stm_rule.specs.Kept.{good_of}
use Rattle.stm_rule.proofs.stm.Stm.tml_commit.Given as goal

abbrev pub ghosts-store_as : goal.ghosts-store_as
ghosts-store_as g a = record { step = of_tml (tml_commits a.new); shows = Commits (good_of g.K.MemRule.good a.self.now.config a.self.now.rule) a.self.now.config a.said.now a.new; caller = a.said.now }
