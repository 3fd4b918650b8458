use Rattle.rule_orec.specs.OrecRuns.OrecStep.{orec_confirms}
use Rattle.stm_rule.specs.Runs.CoreRuns.CoreStep.{of_orec}
use Rattle.alg_orec.specs.RecordFindings.{FindsAgain}
use Rattle.stm_rule.specs.Kept.{good_of}
use Rattle.alg_orec.proofs.reading_steps.confirm.Given as goal

abbrev pub ghosts-load_at : goal.ghosts-load_at
ghosts-load_at g a = record { step = of_orec (orec_confirms a.said.now.1); shows = FindsAgain (good_of g.K.MemRule.good a.self.now.config a.self.now.rule) a.self.now.config a.said.now.0 a.said.now.1; caller = a.said.now.0 }
