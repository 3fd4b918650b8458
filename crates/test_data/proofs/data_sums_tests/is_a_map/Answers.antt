use Rattle.std.proofs.Common.{◌+◌, ◌*◌, sym, subst}
use Rattle.stm_model.specs.Memories.{overlay}
use Rattle.stm_model.specs.Plains.{own_writes}
use Rattle.data_sums.specs.Sums.{IsSumMap}
use Rattle.test_data.proofs.data_sums_tests.is_a_map.Goals as goal

pub calls_agree-replies-requires-clause-well : goal.calls_agree-replies-requires-clause-well
calls_agree-replies-requires-clause-well c = λ m e len ex.
    let zeros = c.in_ok-memory in
    subst (λ x. IsSumMap c.new.result (overlay x (own_writes zeros.memory))) (sym e)
    (subst (IsSumMap c.new.result) (sym zeros.ensures.zeros) (c.maps_are_apart.ensures.empty c.new.result (c.args.at + 1 + 5 * c.args.cells)).0)
