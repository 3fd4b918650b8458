use Rattle.rule_orec.specs.OrecRuns.OrecStep.{orec_looks}
use Rattle.stm_rule.specs.Runs.CoreRuns.CoreStep.{of_orec}
use Rattle.alg_orec.specs.RecordFindings.{FindsRecord}
use Rattle.alg_orec.proofs.Picking.{record_of}
use Rattle.alg_orec.proofs.lazy_steps.look.Given as goal

abbrev pub ghosts-load_as : goal.ghosts-load_as
ghosts-load_as g a = record { step = of_orec (orec_looks (record_of a.at)); shows = FindsRecord a.self.now.config a.said.now (record_of a.at); caller = a.said.now }
