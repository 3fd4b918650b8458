use Rattle.rule_orec.specs.OrecRuns.OrecStep.{orec_samples}
use Rattle.stm_rule.specs.Runs.CoreRuns.CoreStep.{of_orec}
use Rattle.alg_orec.specs.RecordFindings.{FindsRecord}
use Rattle.alg_orec.proofs.reading_steps.sample.Given as goal

abbrev pub ghosts-load_at : goal.ghosts-load_at
ghosts-load_at g a = record { step = of_orec (orec_samples a.said.now.1 a.said.now.2); shows = FindsRecord a.self.now.config a.said.now.0 a.said.now.1; caller = a.said.now.0 }
