use Rattle.std.proofs.Common.{◌+◌, ◌%◌, ◌^◌, get_or}
use Rattle.std.proofs.lemmas.List.{get_or-set_other}
use Rattle.data_cells.proofs.ChainRegions.{zeros-chains, chains-same, inserted-outside, removed-outside}
use Rattle.data_cells.proofs.laws.chains_are_apart.Goals as goal

pub returns : goal.returns
returns c = record {
  empty = zeros-chains;
  apart = chains-same;
  within = λ r m key x w some out. (inserted-outside r m key x w some out, removed-outside r m key x w some out);
  adds = λ c stripe k x m d. get_or-set_other m (c.at + stripe) x ((get_or m (c.at + stripe) 0 + k) % 2 ^ 64) 0 d;
}
