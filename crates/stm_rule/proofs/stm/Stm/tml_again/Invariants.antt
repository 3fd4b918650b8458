use Rattle.rule_seq.specs.TmlRuns.TmlStep.{tml_agains}
use Rattle.stm_rule.specs.Runs.CoreRuns.CoreStep.{of_tml}
use Rattle.stm_rule.specs.Findings.{FindsAgain}
use Rattle.stm_rule.specs.Kept.{good_of}
use Rattle.stm_rule.proofs.stm.Stm.tml_again.Given as goal

abbrev pub ghosts-load_as : goal.ghosts-load_as
ghosts-load_as g a = record { step = of_tml tml_agains; shows = (FindsAgain (good_of g.K.MemRule.good a.self.now.config a.self.now.rule) a.self.now.config); caller = a.said.now }
