use Rattle.stm_rule.specs.Runs.CoreRuns.CoreStep.{direct_ups}
use Rattle.rule_base.specs.StepKinds.{Nothing}
use Rattle.alg_orec.proofs.Picking.{record_of}
use Rattle.alg_orec.proofs.promoting_steps.direct_release_above.Given as goal

abbrev pub ghosts-store_as : goal.ghosts-store_as
ghosts-store_as g a = record { step = direct_ups (record_of a.at) a.said.now.1; shows = Nothing; caller = a.said.now.0 }
