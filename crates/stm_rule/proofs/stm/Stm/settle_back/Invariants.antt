use Rattle.stm_rule.specs.Runs.CoreRuns.CoreStep.{settles}
use Rattle.stm_rule.specs.FenceFindings.{FindsEven}
use Rattle.stm_rule.proofs.stm.Stm.settle_back.Given as goal

abbrev pub ghosts-load_as : goal.ghosts-load_as
ghosts-load_as g a = record { step = settles; shows = FindsEven a.said.now.1; caller = a.said.now.0 }
