use Rattle.rule_orec.specs.OrecRuns.OrecStep.{orec_clocks}
use Rattle.stm_rule.specs.Runs.CoreRuns.CoreStep.{of_orec}
use Rattle.alg_orec.specs.RecordFindings.{FindsClock}
use Rattle.rule_base.specs.Ranks.{home_of}
use Rattle.alg_orec.specs.Vouching.{to_validate}
use Rattle.alg_orec.proofs.reading_steps.clock.Given as goal

abbrev pub ghosts-load_as : goal.ghosts-load_as
ghosts-load_as g a = record { step = of_orec (orec_clocks (to_validate (home_of a.self.now.config) a.seat.now.me.0.view)); shows = FindsClock a.self.now.config; caller = a.said.now }
