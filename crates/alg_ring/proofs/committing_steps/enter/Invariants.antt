use Rattle.rule_ring.specs.RingRuns.RingStep.{ring_enters}
use Rattle.stm_rule.specs.Runs.CoreRuns.CoreStep.{of_ring}
use Rattle.rule_ring.specs.RingSteps.{RingEnters}
use Rattle.stm_rule.specs.Kept.{good_of}
use Rattle.alg_ring.proofs.committing_steps.enter.Given as goal

abbrev pub ghosts-store_as : goal.ghosts-store_as
ghosts-store_as g a = record { step = of_ring (ring_enters a.new); shows = RingEnters (good_of g.K.MemRule.good a.self.now.config a.self.now.rule) a.self.now.config a.said.now a.new; caller = a.said.now }
