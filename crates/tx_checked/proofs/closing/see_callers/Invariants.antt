use Rattle.stm_rule.specs.Runs.CoreRuns.CoreStep.{hears}
use Rattle.tx_checked.specs.OneHistory.{FindsCallers}
use Rattle.tx_checked.proofs.closing.see_callers.Given as goal

abbrev pub ghosts-load_as : goal.ghosts-load_as
ghosts-load_as a = record { step = hears; shows = FindsCallers a.self.now.config a.said.now; caller = a.said.now }
