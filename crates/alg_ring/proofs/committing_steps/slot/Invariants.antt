use Rattle.rule_ring.specs.RingRuns.RingStep.{ring_slots}
use Rattle.stm_rule.specs.Runs.CoreRuns.CoreStep.{of_ring}
use Rattle.rule_base.specs.StepKinds.{Nothing}
use Rattle.stm_rule.specs.RecordsKept.{cells_of}
use Rattle.alg_ring.proofs.committing_steps.slot.Given as goal

abbrev pub ghosts-store_at : goal.ghosts-store_at
ghosts-store_at g a = record { step = of_ring (ring_slots a.self.now.config.ring a.said.now.1 a.said.now.2 (cells_of a.said.now.3.now.items)); shows = Nothing; caller = a.said.now.0 }
