use Rattle.rule_orec.specs.OrecRuns.OrecStep.{orec_begins}
use Rattle.stm_rule.specs.Runs.CoreRuns.CoreStep.{of_orec}
use Rattle.alg_orec.specs.RecordFindings.{FindsStart}
use Rattle.stm_rule.specs.Kept.{good_of}
use Rattle.alg_orec.proofs.reading_steps.begin.Given as goal

abbrev pub ghosts-load_as : goal.ghosts-load_as
ghosts-load_as g a = record { step = of_orec orec_begins; shows = FindsStart (good_of g.K.MemRule.good a.self.now.config a.self.now.rule) a.self.now.config; caller = a.said.now }
