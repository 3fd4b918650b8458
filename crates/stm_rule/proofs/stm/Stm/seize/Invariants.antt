use Rattle.stm_rule.specs.Runs.CoreRuns.CoreStep.{seizes}
use Rattle.rule_base.specs.Encodings.{gate_word}
use Rattle.stm_rule.specs.Findings.{FindsTaken}
use Rattle.stm_rule.proofs.stm.Stm.seize.Given as goal

abbrev pub ghosts-exchange_as : goal.ghosts-exchange_as
ghosts-exchange_as g a = record { step = seizes a.said.now.1 a.said.now.2; shows = FindsTaken a.self.now.config a.said.now.0 (gate_word a.said.now.1 0 a.said.now.2); caller = a.said.now.0 }
