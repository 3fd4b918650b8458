use Rattle.std.proofs.Common.{slice_index}
use Rattle.stm_logs.proofs.FilterLemmas.{adds-bits, has-added, has-stays}
use Rattle.stm_logs.proofs.filter.Filter.add.Goals as goal

pub returns-clause-words : goal.returns-clause-words
returns-clause-words c =
    rw (← c.self.view_is) (adds-bits c.args.a _ _ _ _ _ _ _ c.self.told c.set_bit.ensures c.set_bit-2.ensures c.mixed_bit.ensures.value c.set_bit-3.ensures c.mixed_bit-2.ensures.value c.set_bit-4.ensures)

pub returns-clause-there : goal.returns-clause-there
returns-clause-there c =
    has-added c.args.a (slice_index c.self.inside.words) (slice_index c.set_bit-4.new.words)
    (adds-bits c.args.a _ _ _ _ _ _ _ c.self.told c.set_bit.ensures c.set_bit-2.ensures c.mixed_bit.ensures.value c.set_bit-3.ensures
    c.mixed_bit-2.ensures.value c.set_bit-4.ensures)

pub returns-clause-stays : goal.returns-clause-stays
returns-clause-stays c =
    rw (← c.self.view_is)
    (λ b h.
    has-stays c.args.a b (slice_index c.self.inside.words) (slice_index c.set_bit-4.new.words)
    (adds-bits c.args.a _ _ _ _ _ _ _ c.self.told c.set_bit.ensures c.set_bit-2.ensures c.mixed_bit.ensures.value c.set_bit-3.ensures
    c.mixed_bit-2.ensures.value c.set_bit-4.ensures) h)
