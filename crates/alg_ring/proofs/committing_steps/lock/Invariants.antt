use Rattle.rule_ring.specs.RingRuns.RingStep.{ring_locks}
use Rattle.stm_rule.specs.Runs.CoreRuns.CoreStep.{of_ring}
use Rattle.stm_rule.specs.Findings.{FindsLock}
use Rattle.alg_ring.proofs.committing_steps.lock.Given as goal

abbrev pub ghosts-exchange_as : goal.ghosts-exchange_as
ghosts-exchange_as g a = record { step = of_ring ring_locks; shows = FindsLock a.self.now.config a.said.now; caller = a.said.now }
