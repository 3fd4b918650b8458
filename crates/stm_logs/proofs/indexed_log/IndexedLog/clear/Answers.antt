use Rattle.std.proofs.Common.{◌≡◌, ◌+◌, ◌%◌, length, sym, ap, ◌∙◌, arith}
use Rattle.stm_logs.proofs.BucketLemmas.{index-empty, raised, written-over}
use Rattle.stm_logs.proofs.indexed_log.IndexedLog.clear.Goals as goal

pub invariant_of-self : goal.invariant_of-self
invariant_of-self c =
    let i = c.self.invariant in
    let bs = c.self.inside.index.items in
    let size : length c.clear_marks.new.index ≡ length bs = c.clear_marks.ensures.size ∙ ap length c.deref_mut.ensures.value in
    let whole = written-over c.clear_marks.new.index bs c.self.inside.index.len size (sym c.deref_mut.ensures.len ∙ sym c.clear_marks.ensures.size) in
    let none = index-empty 1 c.clear_marks.new.index (λ x l. omega (arith, c.clear_marks.ensures.marks x l)) in
    rw (c.clear.ensures.items, c.clear.ensures.capacity, whole) (none, size ∙ i.1, omega arith, i.3, i.4, omega arith, i.6)

pub invariant_of-self-else-self-eq0 : goal.invariant_of-self-else-self-eq0
invariant_of-self-else-self-eq0 c =
    let i = c.self.invariant in
    let next : (c.self.inside.generation + 1) % 4294967296 ≡ c.self.inside.generation + 1 = omega (arith, c.if-self-eq0.false) in
    rw (c.clear.ensures.items, next) (raised _ _ _ i.0, i.1, omega arith, i.3, i.4, omega arith, rw c.clear.ensures.capacity i.6)
