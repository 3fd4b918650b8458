use Rattle.stm_rule.specs.Runs.CoreRuns.CoreStep.{direct_releases}
use Rattle.rule_base.specs.StepKinds.{Nothing}
use Rattle.alg_orec.proofs.Picking.{record_of}
use Rattle.alg_orec.proofs.promoting_steps.direct_release.Given as goal

abbrev pub ghosts-store_as : goal.ghosts-store_as
ghosts-store_as g a = record { step = direct_releases (record_of a.at) a.said.now.1; shows = Nothing; caller = a.said.now.0 }
