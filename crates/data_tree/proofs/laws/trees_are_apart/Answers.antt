use Rattle.data_tree.proofs.ShapeSame.{zeros-shape}
use Rattle.data_tree.specs.Trees.{pool}
use Rattle.data_tree.proofs.TreeRegions.{tree-same, inserted-outside, removed-outside}
use Rattle.data_tree.proofs.laws.trees_are_apart.Goals as goal

pub returns : goal.returns
returns c = record {
  empty = λ r n. (_, zeros-shape (pool r) n);
  apart = λ r m k w same. (w.0, tree-same r m k w.0 w.1 same);
  within = λ r m key x w small out. (inserted-outside r m key x w small out, removed-outside r m key x w small out);
}
