use Rattle.data_effects.proofs.KeyLaws.{keys-ascend}
use Rattle.data_cells.specs.Chains.{tag}
use Rattle.data_cells.proofs.CounterLaws.{added-sum}
use Rattle.data_cells.proofs.ChainContents.{inserted-keys, removed-keys}
use Rattle.data_cells.proofs.ChainEffects.{inserted-keeps, removed-keeps}
use Rattle.data_cells.proofs.ChainReach.{reached}
use Rattle.data_cells.proofs.laws.contents_change.Goals as goal

pub returns : goal.returns
returns c = record {
  sum = added-sum;
  inserts = λ r m key w some room small. (inserted-keys r m key w some room, inserted-keeps r m key w some room small);
  removes = λ r m key w some room. (removed-keys r m key w some room, removed-keeps r m key w some room);
  ascends = λ r m w. keys-ascend (tag r m) r.cells w.differ;
  reaches = reached;
}
