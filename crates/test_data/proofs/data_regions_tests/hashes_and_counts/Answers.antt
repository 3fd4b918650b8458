use Rattle.std.proofs.Common.{[], ◌∷◌, sym, subst, arith}
use Rattle.stm_model.specs.Memories.{overlay}
use Rattle.stm_model.specs.Plains.{own_writes}
use Rattle.data_cells.specs.Chains.{IsChains}
use Rattle.data_cells.specs.Structures.{hash_of}
use Rattle.data_regions.specs.declared.region.Region.TheVariants.{Hash as OfHash}
use Rattle.test_data.proofs.data_regions_tests.hashes_and_counts.Goals as goal

pub hashes-replies-requires-clause-well : goal.hashes-replies-requires-clause-well
hashes-replies-requires-clause-well g c = λ m e len ex.
    let zeros = c.in_ok-memory in
    subst (λ x. IsChains (hash_of c.new.result) (overlay x (own_writes zeros.memory))) (sym e) (zeros.ensures.good (OfHash c.new.result ∷ []) 0 (OfHash c.new.result) (omega arith))
