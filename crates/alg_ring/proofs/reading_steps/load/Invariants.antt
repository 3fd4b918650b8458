use Rattle.rule_ring.specs.RingRuns.RingStep.{ring_loads}
use Rattle.stm_rule.specs.Runs.CoreRuns.CoreStep.{of_ring}
use Rattle.rule_base.specs.StepKinds.{Nothing}
use Rattle.stm_rule.specs.Kept.{address_of}
use Rattle.alg_ring.proofs.reading_steps.load.Given as goal

abbrev pub ghosts-load_as : goal.ghosts-load_as
ghosts-load_as g a = record { step = of_ring (ring_loads (address_of a.at)); shows = Nothing; caller = a.said.now }
