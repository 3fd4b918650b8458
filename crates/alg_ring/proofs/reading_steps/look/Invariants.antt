use Rattle.rule_ring.specs.RingRuns.RingStep.{ring_looks}
use Rattle.stm_rule.specs.Runs.CoreRuns.CoreStep.{of_ring}
use Rattle.alg_ring.specs.RingFindings.{FindsLook}
use Rattle.stm_rule.specs.Kept.{good_of}
use Rattle.alg_ring.proofs.reading_steps.look.Given as goal

abbrev pub ghosts-load_as : goal.ghosts-load_as
ghosts-load_as g a = record { step = of_ring ring_looks; shows = FindsLook (good_of g.K.MemRule.good a.self.now.config a.self.now.rule) a.self.now.config; caller = a.said.now }
