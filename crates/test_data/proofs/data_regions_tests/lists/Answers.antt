use Rattle.std.proofs.Common.{[], ◌∷◌, sym, subst, arith}
use Rattle.stm_model.specs.Memories.{overlay}
use Rattle.stm_model.specs.Plains.{own_writes}
use Rattle.data_cells.specs.Chains.{IsChains}
use Rattle.data_cells.specs.Structures.{list_of}
use Rattle.data_regions.specs.declared.region.Region.TheVariants.{List as OfList}
use Rattle.test_data.proofs.data_regions_tests.lists.Goals as goal

pub adds_twice-replies-requires-clause-well : goal.adds_twice-replies-requires-clause-well
adds_twice-replies-requires-clause-well g c = λ m e len ex.
    let zeros = c.in_ok-memory in
    subst (λ x. IsChains (list_of c.new.result) (overlay x (own_writes zeros.memory))) (sym e) (zeros.ensures.good (OfList c.new.result ∷ []) 0 (OfList c.new.result) (omega arith))

pub adds_three-replies-requires-clause-well : goal.adds_three-replies-requires-clause-well
adds_three-replies-requires-clause-well g c = λ m e len ex.
    let zeros = c.in_ok-small in
    subst (λ x. IsChains (list_of c.new-2.result) (overlay x (own_writes zeros.small))) (sym e) (zeros.ensures.good (OfList c.new-2.result ∷ []) 0 (OfList c.new-2.result) (omega arith))
