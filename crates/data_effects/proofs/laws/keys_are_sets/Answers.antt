use Rattle.data_effects.proofs.KeyLaws.{has-with, ascends-with, ascends-without, has-without, same-sets}
use Rattle.data_effects.proofs.laws.keys_are_sets.Goals as goal

pub returns : goal.returns
returns c = record {
  adds = λ a k xs h n. (ascends-with k xs h n, has-with a k xs);
  removes = λ a k xs h. (ascends-without k xs h, has-without a k xs h);
  equal = same-sets;
}
