use Rattle.rule_orec.specs.OrecRuns.OrecStep.{orec_commits}
use Rattle.stm_rule.specs.Runs.CoreRuns.CoreStep.{of_orec}
use Rattle.alg_orec.specs.RecordFindings.{FindsCommit}
use Rattle.stm_rule.specs.Kept.{good_of}
use Rattle.stm_rule.specs.RecordsKept.{cells_of}
use Rattle.alg_orec.proofs.lazy_steps.commit.Given as goal

abbrev pub ghosts-exchange_as : goal.ghosts-exchange_as
ghosts-exchange_as g a =
    record {
      step = of_orec (orec_commits a.old (cells_of a.said.now.1.now.items) (cells_of a.said.now.1.now.items));
      shows = FindsCommit (good_of g.K.MemRule.good a.self.now.config a.self.now.rule) a.self.now.config a.said.now.0 a.old
          (cells_of a.said.now.1.now.items);
      caller = a.said.now.0;
    }
