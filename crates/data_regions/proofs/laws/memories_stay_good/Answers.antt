use Rattle.std.proofs.Common.{refl, arith}
use Rattle.std.proofs.lemmas.List.Elements.{All-contains}
use Rattle.data_regions.specs.declared.region.Region.TheVariants.{List as OfList, Hash as OfHash}
use Rattle.data_cells.specs.Structures.{list_of, hash_of}
use Rattle.data_regions.specs.Regions.{WellFormed}
use Rattle.data_regions.proofs.RegionLemmas.{opening-good, plain-write, add-keeps, chains-keep, tree-keeps, queue-keeps, sums-keep}
use Rattle.data_regions.proofs.laws.memories_stay_good.Goals as goal

pub returns : goal.returns
returns c =
    let chains = c.chains_are_apart.ensures in
    let contents = c.contents_change.ensures in
    let trees = c.trees_are_apart.ensures in
    let keys = c.keys_change.ensures in
    let values = c.contents_change-2.ensures in
    let queues = c.queues_are_apart.ensures in
    let pairs = c.pairs_change.ensures in
    let maps = c.maps_are_apart.ensures in
    let removals = c.removals_stay_within.ensures in
    record {
      opening = opening-good chains.empty trees.empty queues.empty maps.empty;
      none = λ m j d lt. absurd (omega arith);
      plain = plain-write chains.apart trees.apart queues.apart maps.apart;
      add = add-keeps chains.apart trees.apart queues.apart maps.apart chains.adds;
      list = λ regions l m key apart has ends small all. chains-keep chains.apart trees.apart queues.apart maps.apart regions (OfList l) (list_of l) m key (λ k w. w) refl refl (omega arith) apart has ends
          (All-contains (λ r. WellFormed r m) regions (OfList l) all has) all contents.inserts contents.removes chains.within small;
      hash = λ regions h m key apart has ends small all. chains-keep chains.apart trees.apart queues.apart maps.apart regions (OfHash h) (hash_of h) m key (λ k w. w) refl refl (omega arith) apart has ends
          (All-contains (λ r. WellFormed r m) regions (OfHash h) all has) all contents.inserts contents.removes chains.within small;
      tree = tree-keeps chains.apart trees.apart queues.apart maps.apart keys.inserts keys.removes trees.within;
      queue = queue-keeps chains.apart trees.apart queues.apart maps.apart values.puts values.gets queues.within;
      sums = sums-keep chains.apart trees.apart queues.apart maps.apart pairs.puts removals.removes removals.words maps.within;
    }
