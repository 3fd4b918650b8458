use Rattle.std.proofs.Common.{◌+◌, sym, subst}
use Rattle.stm_model.specs.Memories.{overlay}
use Rattle.stm_model.specs.Plains.{own_writes}
use Rattle.data_queue.specs.Queues.{IsQueue}
use Rattle.test_data.proofs.data_queue_tests.is_a_list.Goals as goal

pub replies_agree-replies-requires-clause-well : goal.replies_agree-replies-requires-clause-well
replies_agree-replies-requires-clause-well c = λ m e len ex.
    let zeros = c.in_ok-memory in
    subst (λ x. IsQueue c.new.result (overlay x (own_writes zeros.memory))) (sym e)
    (subst (IsQueue c.new.result) (sym zeros.ensures.zeros) (c.queues_are_apart.ensures.empty c.new.result (c.args.at + 2 + c.args.cells)).0)
