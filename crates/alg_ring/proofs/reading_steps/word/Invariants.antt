use Rattle.rule_ring.specs.RingRuns.RingStep.{ring_words}
use Rattle.stm_rule.specs.Runs.CoreRuns.CoreStep.{of_ring}
use Rattle.rule_base.specs.StepKinds.{Nothing}
use Rattle.alg_ring.proofs.reading_steps.word.Given as goal

abbrev pub ghosts-load_at : goal.ghosts-load_at
ghosts-load_at g a = record { step = of_ring (ring_words a.self.now.config.ring a.said.now.1 a.said.now.2); shows = Nothing; caller = a.said.now.0 }
