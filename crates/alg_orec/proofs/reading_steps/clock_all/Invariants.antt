use Rattle.rule_orec.specs.OrecRuns.OrecStep.{orec_clocks_all}
use Rattle.stm_rule.specs.Runs.CoreRuns.CoreStep.{of_orec}
use Rattle.alg_orec.specs.RecordFindings.{FindsAll}
use Rattle.stm_rule.specs.Kept.{good_of}
use Rattle.alg_orec.proofs.reading_steps.clock_all.Given as goal

abbrev pub ghosts-load_as : goal.ghosts-load_as
ghosts-load_as g a = record { step = of_orec orec_clocks_all; shows = FindsAll (good_of g.K.MemRule.good a.self.now.config a.self.now.rule) a.self.now.config; caller = a.said.now }
