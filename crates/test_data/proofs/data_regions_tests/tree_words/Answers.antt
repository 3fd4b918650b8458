use Rattle.std.proofs.Common.{[], ◌∷◌, sym, subst, arith}
use Rattle.stm_model.specs.Memories.{overlay}
use Rattle.stm_model.specs.Plains.{own_writes}
use Rattle.data_tree.specs.Trees.{IsTree}
use Rattle.data_regions.specs.declared.region.Region.TheVariants.{Tree as OfTree}
use Rattle.test_data.proofs.data_regions_tests.tree_words.Goals as goal

pub takes_out-replies-requires-clause-well : goal.takes_out-replies-requires-clause-well
takes_out-replies-requires-clause-well c = λ m e len ex.
    let zeros = c.in_ok-memory in
    subst (λ x. IsTree c.new.result (overlay x (own_writes zeros.memory))) (sym e) (zeros.ensures.good (OfTree c.new.result ∷ []) 0 (OfTree c.new.result) (omega arith))
