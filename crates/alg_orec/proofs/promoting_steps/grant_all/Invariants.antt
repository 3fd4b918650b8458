use Rattle.stm_rule.specs.Runs.CoreRuns.CoreStep.{orec_grants_all}
use Rattle.alg_orec.specs.RecordFindings.{FindsAll}
use Rattle.stm_rule.specs.Kept.{good_of}
use Rattle.alg_orec.proofs.promoting_steps.grant_all.Given as goal

abbrev pub ghosts-load_as : goal.ghosts-load_as
ghosts-load_as g a = record { step = orec_grants_all; shows = FindsAll (good_of g.K.MemRule.good a.self.now.config a.self.now.rule) a.self.now.config; caller = a.said.now }
