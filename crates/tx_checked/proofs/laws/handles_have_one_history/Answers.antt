use Rattle.tx_checked.proofs.OneHistoryLaws.{is-part, has-moments, takes-all, has-found}
use Rattle.tx_checked.proofs.laws.handles_have_one_history.Goals as goal

pub returns : goal.returns
returns c = record {
  one = λ w m at. (is-part w m at, has-moments w m at);
  taken = takes-all;
  handed_out = has-found;
}
