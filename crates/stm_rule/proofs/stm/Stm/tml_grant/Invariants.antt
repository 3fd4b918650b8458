use Rattle.stm_rule.specs.Runs.CoreRuns.CoreStep.{grants}
use Rattle.stm_rule.specs.Findings.{FindsSole}
use Rattle.stm_rule.proofs.stm.Stm.tml_grant.Given as goal

abbrev pub ghosts-load_as : goal.ghosts-load_as
ghosts-load_as g a = record { step = grants; shows = FindsSole a.self.now.config; caller = a.said.now }
