use Rattle.std.proofs.Common.{◌≡◌, ◌+◌, ◌%◌, length, sym, ap, ◌∙◌, arith}
use Rattle.stm_logs.proofs.BucketLemmas.{index-empty, written-over}
use Rattle.stm_logs.proofs.ShortLemmas.{kept-empty, kept-raised}
use Rattle.stm_logs.proofs.short_log.ShortLog.clear.Goals as goal

pub begin_short-requires : goal.begin_short-requires
begin_short-requires c = (c.self.invariant.0.most, c.self.invariant.1)

pub invariant_of-self : goal.invariant_of-self
invariant_of-self c =
    let i = c.self.invariant in
    let bs = c.self.inside.index.items in
    let short = c.begin_short.ensures in
    let size : length c.clear_marks.new.index ≡ length bs = c.clear_marks.ensures.size ∙ ap length c.deref_mut.ensures.value in
    let whole = written-over c.clear_marks.new.index bs c.self.inside.index.len size (sym c.deref_mut.ensures.len ∙ sym c.clear_marks.ensures.size) in
    let none = index-empty 1 c.clear_marks.new.index (λ x l. omega (arith, c.clear_marks.ensures.marks x l)) in
    rw (c.clear.ensures.items, c.clear.ensures.capacity, whole)
    (kept-empty c.begin_short.new.short 0 1 c.clear_marks.new.index short.most none, short.within, size ∙ i.2, omega arith, i.4, i.5, omega arith, i.7)

pub invariant_of-self-else-self-eq0 : goal.invariant_of-self-else-self-eq0
invariant_of-self-else-self-eq0 c =
    let i = c.self.invariant in
    let short = c.begin_short.ensures in
    let next : (c.self.inside.generation + 1) % 4294967296 ≡ c.self.inside.generation + 1 = omega (arith, c.if-self-eq0.false) in
    rw (c.clear.ensures.items, next) (
      kept-empty c.begin_short.new.short 0 (c.self.inside.generation + 1) c.self.inside.index.items short.most (kept-raised _ _ _ _ _ i.0),
      short.within,
      i.2,
      omega arith,
      i.4,
      i.5,
      omega arith,
      rw c.clear.ensures.capacity i.7,
    )
