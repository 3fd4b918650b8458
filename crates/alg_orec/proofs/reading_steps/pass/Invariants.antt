use Rattle.rule_orec.specs.OrecRuns.OrecStep.{orec_passes}
use Rattle.stm_rule.specs.Runs.CoreRuns.CoreStep.{of_orec}
use Rattle.alg_orec.specs.RecordFindings.{FindsRead}
use Rattle.alg_orec.proofs.Picking.{record_of}
use Rattle.alg_orec.proofs.reading_steps.pass.Given as goal

abbrev pub ghosts-load_as : goal.ghosts-load_as
ghosts-load_as g a = record { step = of_orec (orec_passes (record_of a.at) a.said.now.1); shows = FindsRead a.self.now.config a.said.now.0 (record_of a.at); caller = a.said.now.0 }
