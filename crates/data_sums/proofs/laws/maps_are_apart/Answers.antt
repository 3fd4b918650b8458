use Rattle.data_sums.proofs.SumRegions.{zeros-map, own-words, put-outside}
use Rattle.data_sums.proofs.laws.maps_are_apart.Goals as goal

pub returns : goal.returns
returns c = record {
  empty = zeros-map;
  apart = own-words;
  within = put-outside;
}
