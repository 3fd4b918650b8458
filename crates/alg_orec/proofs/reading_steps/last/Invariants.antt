use Rattle.rule_orec.specs.OrecRuns.OrecStep.{orec_lasts}
use Rattle.stm_rule.specs.Runs.CoreRuns.CoreStep.{of_orec}
use Rattle.alg_orec.specs.RecordFindings.{FindsLast}
use Rattle.stm_rule.specs.Kept.{good_of}
use Rattle.alg_orec.proofs.Picking.{record_of}
use Rattle.alg_orec.proofs.reading_steps.last.Given as goal

abbrev pub ghosts-load_as : goal.ghosts-load_as
ghosts-load_as g a = record { step = of_orec (orec_lasts (record_of a.at) a.said.now.1); shows = FindsLast (good_of g.K.MemRule.good a.self.now.config a.self.now.rule) a.self.now.config a.said.now.0 (record_of a.at); caller = a.said.now.0 }
