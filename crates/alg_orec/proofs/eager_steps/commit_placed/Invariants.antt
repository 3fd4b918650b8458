use Rattle.rule_orec.specs.OrecRuns.OrecStep.{orec_commits}
use Rattle.stm_rule.specs.Runs.CoreRuns.CoreStep.{of_orec}
use Rattle.alg_orec.specs.RecordFindings.{FindsCommit}
use Rattle.stm_rule.specs.Kept.{good_of}
use Rattle.std.specs.Prelude.{[]}
use Rattle.alg_orec.proofs.eager_steps.commit_placed.Given as goal

abbrev pub ghosts-exchange_as : goal.ghosts-exchange_as
ghosts-exchange_as g a =
    record {
      step = of_orec (orec_commits a.old a.seat.now.me.0.view.owned.in_place []);
      shows = FindsCommit (good_of g.K.MemRule.good a.self.now.config a.self.now.rule) a.self.now.config a.said.now a.old
          a.seat.now.me.0.view.owned.in_place;
      caller = a.said.now;
    }
