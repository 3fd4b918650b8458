use Rattle.work_gen.proofs.SummaryLaws.{summary-counted}
use Rattle.work_gen.proofs.laws.summary_is_counted.Goals as goal

pub returns : goal.returns
returns c =
    summary-counted (record {
      sum = c.contents_change.ensures.sum;
      stripe = c.chains_are_apart.ensures.adds;
      inserts = c.contents_change.ensures.inserts;
      ascend = c.contents_change.ensures.ascends;
      own = c.chains_are_apart.ensures.apart;
      within = c.chains_are_apart.ensures.within;
    }) c.chains_are_apart.ensures.empty
