use Rattle.std.proofs.Common.{sym, subst}
use Rattle.stm_model.specs.Memories.{overlay}
use Rattle.stm_model.specs.Plains.{own_writes}
use Rattle.data_sums.specs.Sums.{IsSumMap}
use Rattle.test_data.proofs.data_sums_tests.sums_stand_in_the_cells.Goals as goal

pub puts_four-replies-requires-clause-well : goal.puts_four-replies-requires-clause-well
puts_four-replies-requires-clause-well g c = λ m e len ex.
    let zeros = c.in_ok-memory in
    subst (λ x. IsSumMap c.new.result (overlay x (own_writes zeros.memory))) (sym e)
    (subst (IsSumMap c.new.result) (sym zeros.ensures.zeros) (c.maps_are_apart.ensures.empty c.new.result 17).0)
