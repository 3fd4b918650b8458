use Rattle.data_effects.proofs.KeyLaws.{keys-ascend}
use Rattle.std.proofs.Common.{◌<◌, subst}
use Rattle.data_tree.proofs.ShapeOrder.{named-once}
use Rattle.data_tree.specs.Trees.{pool, tag}
use Rattle.data_tree.proofs.TreeContents.{inserted-keys, removed-keys}
use Rattle.data_tree.proofs.TreeEffects.{inserted-keeps, removed-keeps}
use Rattle.data_tree.proofs.TreeRegions.{reached}
use Rattle.data_tree.proofs.laws.keys_change.Goals as goal

pub returns : goal.returns
returns c = record {
  inserts = λ r m key w small room. (inserted-keys r m key w small room, inserted-keeps r m key w small room);
  removes = λ r m key w small room. (removed-keys r m key w small room, removed-keeps r m key w small room);
  ascends = λ r m w. keys-ascend (tag r m) r.cells (λ i j il jl pos e. w.1.differ i j (record { inside = il; pos = pos }) (record { inside = jl; pos = subst (λ z. 0 < z) e pos }) e);
  reaches = reached;
  once = λ r m a d j w. named-once (pool r) m w.0 a d j w.1;
}
