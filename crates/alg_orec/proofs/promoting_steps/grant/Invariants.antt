use Rattle.stm_rule.specs.Runs.CoreRuns.CoreStep.{orec_grants}
use Rattle.alg_orec.specs.RecordFindings.{FindsGrant}
use Rattle.stm_rule.specs.Kept.{good_of}
use Rattle.alg_orec.proofs.Picking.{record_of}
use Rattle.alg_orec.proofs.promoting_steps.grant.Given as goal

abbrev pub ghosts-load_as : goal.ghosts-load_as
ghosts-load_as g a = record { step = orec_grants (record_of a.at) a.said.now.1; shows = FindsGrant (good_of g.K.MemRule.good a.self.now.config a.self.now.rule) a.self.now.config a.said.now.0 (record_of a.at); caller = a.said.now.0 }
