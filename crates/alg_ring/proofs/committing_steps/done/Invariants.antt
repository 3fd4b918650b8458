use Rattle.rule_ring.specs.RingRuns.RingStep.{ring_dones}
use Rattle.stm_rule.specs.Runs.CoreRuns.CoreStep.{of_ring}
use Rattle.rule_base.specs.StepKinds.{Nothing}
use Rattle.alg_ring.proofs.committing_steps.done.Given as goal

abbrev pub ghosts-store_as : goal.ghosts-store_as
ghosts-store_as g a = record { step = of_ring (ring_dones a.new); shows = Nothing; caller = a.said.now }
