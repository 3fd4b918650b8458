use Rattle.rule_seq.specs.TmlRuns.TmlStep.{tml_writes}
use Rattle.stm_rule.specs.Runs.CoreRuns.CoreStep.{of_tml}
use Rattle.stm_rule.specs.Findings.{FindsSole}
use Rattle.stm_rule.proofs.stm.Stm.tml_write.Given as goal

abbrev pub ghosts-exchange_as : goal.ghosts-exchange_as
ghosts-exchange_as g a = record { step = of_tml (tml_writes a.old); shows = FindsSole a.self.now.config; caller = a.said.now }
