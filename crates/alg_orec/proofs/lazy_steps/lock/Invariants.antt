use Rattle.rule_orec.specs.OrecRuns.OrecStep.{orec_locks}
use Rattle.stm_rule.specs.Runs.CoreRuns.CoreStep.{of_orec}
use Rattle.alg_orec.specs.RecordFindings.{FindsRecord}
use Rattle.alg_orec.proofs.Picking.{record_of}
use Rattle.alg_orec.proofs.lazy_steps.lock.Given as goal

abbrev pub ghosts-exchange_as : goal.ghosts-exchange_as
ghosts-exchange_as g a = record { step = of_orec (orec_locks (record_of a.at) a.said.now.1); shows = FindsRecord a.self.now.config a.said.now.0 (record_of a.at); caller = a.said.now.0 }
