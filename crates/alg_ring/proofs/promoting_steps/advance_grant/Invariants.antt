use Rattle.stm_rule.specs.Runs.CoreRuns.CoreStep.{move_grants}
use Rattle.alg_ring.specs.RingFindings.{FindsLevel}
use Rattle.stm_rule.specs.Kept.{good_of}
use Rattle.alg_ring.proofs.promoting_steps.advance_grant.Given as goal

abbrev pub ghosts-load_as : goal.ghosts-load_as
ghosts-load_as g a = record { step = move_grants; shows = FindsLevel (good_of g.K.MemRule.good a.self.now.config a.self.now.rule) a.self.now.config; caller = a.said.now }
